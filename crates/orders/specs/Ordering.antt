-- Orders to load a feed.
use Rattle.std.specs.Prelude.{ℕ, List, Result, Ok, Err, codes}
use Rattle.orders.specs.declared.fault.OrderFault.{OrderFault}
use Rattle.orders.specs.declared.ordered.OrderOutcome.{OrderOutcome}

abbrev pub order_fault_number : OrderFault → ℕ
order_fault_number OrderFault.UnknownFeed = 114
order_fault_number OrderFault.OrdersFull = 115
order_fault_number OrderFault.OutOfMemory = 116
order_fault_number (OrderFault.LoadRefused refusal) = 120
order_fault_number OrderFault.LoaderGone = 121

abbrev pub order_fault_name : OrderFault → List ℕ
order_fault_name OrderFault.UnknownFeed = codes "UnknownFeed"
order_fault_name OrderFault.OrdersFull = codes "OrdersFull"
order_fault_name OrderFault.OutOfMemory = codes "OutOfMemory"
order_fault_name (OrderFault.LoadRefused refusal) = codes "LoadRefused"
order_fault_name OrderFault.LoaderGone = codes "LoaderGone"

-- a fault with which an order that nobody waits for may be refused: not one of waiting or of the load, whose outcome isn't reported
abbrev pub IsNotTaken : OrderFault → Type 0
IsNotTaken OrderFault.OutOfMemory = ⊥
IsNotTaken (OrderFault.LoadRefused refusal) = ⊥
IsNotTaken _ = Unit {0}

-- an order that was asked for: the feed's name, and the answer
pub record OrderValue : Type 0 where
  pub feed : List ℕ
  pub outcome : OrderOutcome

abbrev pub order_value : List ℕ → Result (Unit {0}) OrderFault → OrderValue
order_value feed taken = record { feed = feed; outcome = OrderOutcome.Put taken }

-- the version that came with a notice, or why there is none
abbrev pub version_alone : {N : Type 0} → Result (ℕ × N) OrderFault → Result ℕ OrderFault
version_alone (Ok waited_for) = Ok waited_for.0
version_alone (Err fault) = Err fault

-- an order that was waited for
abbrev pub waited_value : List ℕ → Result ℕ OrderFault → OrderValue
waited_value feed version = record { feed = feed; outcome = OrderOutcome.Waited version }
