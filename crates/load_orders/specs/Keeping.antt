-- What the end that keeps the queue of orders shows.
use Rattle.std.specs.Prelude.{◌≡◌, ◌+◌, ◌-◌, ◌++◌, ℕ, List, []}
use Rattle.handoff.specs.Ends.{KeeperValue, PutterValue, QueueId}
use Rattle.load_orders.specs.declared.queue.Order.{Order}

-- which queue of orders, of all that there are
abbrev pub OrderQueueId : Type 0 → Type 0
OrderQueueId N = QueueId (Order N)

-- an end of a queue, at which orders are put
abbrev pub EndValue : Type 0 → Type 0
EndValue N = PutterValue (Order N)

-- the end that keeps a queue, while the loader is out
pub record OrderKeeperValue (N : Type 0) : Type 0 where
  pub queue : OrderQueueId N
  pub put : List (Order N)  -- at the ends that came back
  pub out : ℕ  -- how many ends are out, at which orders are put
  pub closings : ℕ  -- how often the queue was closed

-- one end takes orders, and none came back at which any were taken
abbrev pub IsOrderKeeper : {N : Type 0} → KeeperValue (Order N) → Type 0
IsOrderKeeper keeper = (keeper.view.taking ≡ 1) × (keeper.view.taken ≡ [])

-- the end that keeps a new queue
abbrev pub nothing_ordered : {N : Type 0} → OrderQueueId N → OrderKeeperValue N
nothing_ordered queue = record { queue = queue; put = []; out = 0; closings = 0 }

abbrev pub with_one_out : {N : Type 0} → OrderKeeperValue N → OrderKeeperValue N
with_one_out a = record a { out = a.out + 1 }

abbrev pub with_orders : {N : Type 0} → OrderKeeperValue N → List (Order N) → OrderKeeperValue N
with_orders a orders = record a { out = a.out - 1; put = a.put ++ orders }

abbrev pub closed_for_loader : {N : Type 0} → OrderKeeperValue N → OrderKeeperValue N
closed_for_loader a = record a { closings = a.closings + 1 }
