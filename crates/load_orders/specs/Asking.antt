-- What a worker's end of the queue shows, and why it refuses an order.
use Rattle.std.specs.Prelude.{◌≡◌, ◌+◌, ◌<◌, ◌⊎◌, ◌++◌, ◌∷◌, ℕ, List, [], slice_get, Option, Some, None, Result, Ok, Err, ⊤}
use Rattle.std.proofs.Common.{refl}
use Rattle.orders.specs.Ordering.{OrderValue, version_alone, waited_value}
use Rattle.orders.specs.declared.fault.OrderFault.{OrderFault}
use Rattle.orders.specs.declared.ordered.OrderOutcome.{OrderOutcome}
use Rattle.handoff.specs.Ends.{once_tried, with_item}
use Rattle.handoff.specs.Queue.{Held, QueueRule}
use Rattle.handoff.specs.declared.queue.EndView.{EndView}
use Rattle.load_orders.specs.Keeping.{EndValue, OrderQueueId}
use Rattle.load_orders.specs.AnswerChannels.{AnswerChannelId, AnswerEndValue, received_at}
use Rattle.load_orders.specs.declared.queue.Order.{Order}
use Rattle.load_orders.specs.declared.answer_channels.LoadAnswer.{LoadAnswer}

pub record WorkerOrdersValue (N : Type 0) : Type 0 where
  pub names : List (List ℕ)  -- of the feeds, by index
  pub end : EndValue N  -- by which it orders feeds, by index
  pub asked : List OrderValue  -- all orders that were asked for here, refused ones too
  pub received : List (AnswerEndValue N)  -- the answer channels at which it waited, with what was received there

-- what a worker's orders go by: the names of the feeds, by index, and the queue
pub record OrderRoute (N : Type 0) : Type 0 where
  pub names : List (List ℕ)
  pub queue : OrderQueueId N

abbrev pub route_of : {N : Type 0} → WorkerOrdersValue N → OrderRoute N
route_of orders = record { names = orders.names; queue = orders.end.queue }

-- nothing was asked for yet, by an end that may have tried to put orders
abbrev pub nothing_asked : {N : Type 0} → OrderRoute N → ℕ → WorkerOrdersValue N
nothing_asked route tries =
    record { names = route.names; end = record { queue = route.queue; items = []; tries = tries }; asked = []; received = [] }

-- what an order depends on and may change: a worker's orders without what was asked for
pub record Dealings (N : Type 0) : Type 0 where
  pub names : List (List ℕ)
  pub end : EndValue N
  pub received : List (AnswerEndValue N)

abbrev pub dealings : {N : Type 0} → List (List ℕ) → EndValue N → List (AnswerEndValue N) → Dealings N
dealings names end received = record { names = names; end = end; received = received }

abbrev pub dealings_of : {N : Type 0} → WorkerOrdersValue N → Dealings N
dealings_of orders = dealings orders.names orders.end orders.received

-- the first feed of this name
pub record IsFirstFeed (names : List (List ℕ)) (name : List ℕ) (index : ℕ) : Type 0 where
  pub there : slice_get names index ≡ Some name
  pub first : (before : ℕ) → before < index → ¬ (slice_get names before ≡ Some name)

abbrev pub IsNoName : List (List ℕ) → List ℕ → Type 0
IsNoName names name = (index : ℕ) → ¬ (slice_get names index ≡ Some name)

-- the fault that is returned where no notice came; none where one did
abbrev pub fault_of_answer : {N : Type 0} → Option (LoadAnswer N) → Option OrderFault
fault_of_answer (Some (LoadAnswer.Published notice)) = None
fault_of_answer (Some LoadAnswer.Unnoticed) = Some OrderFault.OutOfMemory
fault_of_answer (Some (LoadAnswer.Refused refusal)) = Some (OrderFault.LoadRefused refusal)
fault_of_answer None = Some OrderFault.LoaderGone

-- an order for whose outcome no client waits, and one that carries an answer channel
abbrev pub order_of : {N : Type 0} → ℕ → Order N
order_of index = record { feed = index; answer_channel = None }

abbrev pub awaited_order : {N : Type 0} → ℕ → AnswerChannelId → Order N
awaited_order index channel = record { feed = index; answer_channel = Some channel }

-- there is a feed of this name
abbrev pub IsFeedName : List (List ℕ) → List ℕ → Type 0
IsFeedName names name = (index : ℕ) × IsFirstFeed names name index

-- an order of the first feed of this name is put
abbrev pub PutsOrder : {N : Type 0} → List ℕ → Dealings N → Dealings N → Type 0
PutsOrder name before after =
    (index : ℕ) × IsFirstFeed before.names name index × (after.end ≡ with_item before.end (order_of index)) × (after.received ≡ before.received)

-- an order of the first feed of this name is put with an answer channel, and by the one receiving end of that channel this answer is received, or none
abbrev pub Receives : {N : Type 0} → List ℕ → Option (LoadAnswer N) → Dealings N → Dealings N → Type 0
Receives name answer before after =
    (index : ℕ) × (channel : AnswerChannelId) × IsFirstFeed before.names name index
    × (after.end ≡ with_item before.end (awaited_order index channel)) × (after.received ≡ before.received ++ received_at channel answer ∷ [])

-- the order is added to those that were asked for; the names and the queue stay the same
abbrev pub AddsOrder : {N : Type 0} → OrderValue → WorkerOrdersValue N → WorkerOrdersValue N → Type 0
AddsOrder order before after = (route_of after ≡ route_of before) × (after.asked ≡ before.asked ++ order ∷ [])

-- the room of the queue
abbrev pub four_wait : ◌≡◌ {A = ℕ} 4 4
four_wait = refl

-- over the rule of the queue
module _ {N : Type 0} (rule : QueueRule (Order N)) where
  -- why the queue takes no order: it held four at one moment since this try began; of a loader that is gone nothing is said
  abbrev pub TakesNoOrder : EndValue N → OrderFault → Type 0
  TakesNoOrder end OrderFault.OrdersFull = Held rule 4 (EndView.Putting end.items (end.tries + 1))
  TakesNoOrder end OrderFault.LoaderGone = ⊤
  TakesNoOrder end _ = ⊥

  -- why an order that would be waited for isn't put: there was no memory for an answer channel, and nothing was tried; or the queue took no order
  abbrev pub IsNotAwaited : EndValue N → OrderFault → EndValue N → Type 0
  IsNotAwaited end OrderFault.OutOfMemory end_then = end_then ≡ end
  IsNotAwaited end fault end_then = TakesNoOrder end fault × (end_then ≡ once_tried end)

  -- why an order of a feed of this name is refused, and what that did
  abbrev pub RefusesOrder : List ℕ → OrderFault → Dealings N → Dealings N → Type 0
  RefusesOrder name OrderFault.UnknownFeed before after = IsNoName before.names name × (after.end ≡ before.end) × (after.received ≡ before.received)
  RefusesOrder name fault before after =
      IsFeedName before.names name × TakesNoOrder before.end fault × (after.end ≡ once_tried before.end) × (after.received ≡ before.received)

  -- why no version came of an order that was waited for: it wasn't put, or what was received by its answer channel says so
  abbrev pub RefusesVersion : List ℕ → OrderFault → Dealings N → Dealings N → Type 0
  RefusesVersion name OrderFault.UnknownFeed before after = RefusesOrder name OrderFault.UnknownFeed before after
  RefusesVersion name fault before after =
      (IsFeedName before.names name × IsNotAwaited before.end fault after.end × (after.received ≡ before.received))
      ⊎ ((answer : Option (LoadAnswer N)) × (fault_of_answer answer ≡ Some fault) × Receives name answer before after)

  -- what an order that nobody waits for did
  abbrev pub Puts : List ℕ → Result (Unit {0}) OrderFault → Dealings N → Dealings N → Type 0
  Puts feed (Ok u) before after = PutsOrder feed before after
  Puts feed (Err fault) before after = RefusesOrder feed fault before after

-- what orders go by: the rule of their queue, and the version that a notice is of
pub record OrderWords (N : Type 0) : Type 1 where
  pub rule : QueueRule (Order N)
  pub version : N → ℕ

abbrev pub order_words : {N : Type 0} → QueueRule (Order N) → (N → ℕ) → OrderWords N
order_words rule version = record { rule = rule; version = version }

module _ {N : Type 0} (words : OrderWords N) where
  -- what an order that was waited for did: the version that came is that of the notice that came with it, which was received; or none came
  abbrev pub Waits : List ℕ → Result (ℕ × N) OrderFault → Dealings N → Dealings N → Type 0
  Waits feed (Ok came) before after = (words.version came.1 ≡ came.0) × Receives feed (Some (LoadAnswer.Published came.1)) before after
  Waits feed (Err fault) before after = RefusesVersion words.rule feed fault before after

  -- what an order of this feed did, by what it was answered
  abbrev pub Does : List ℕ → OrderOutcome → Dealings N → Dealings N → Type 0
  Does feed (OrderOutcome.Put taken) before after = Puts words.rule feed taken before after
  Does feed (OrderOutcome.Waited version) before after =
      (came : Result (ℕ × N) OrderFault) × (version_alone came ≡ version) × Waits feed came before after

  -- an order was asked for
  abbrev pub AsksOrder : OrderValue → WorkerOrdersValue N → WorkerOrdersValue N → Type 0
  AsksOrder order before after = Does order.feed order.outcome (dealings_of before) (dealings_of after) × AddsOrder order before after

  -- an order of this feed was asked for and waited for
  abbrev pub AsksAndWaits : List ℕ → Result (ℕ × N) OrderFault → WorkerOrdersValue N → WorkerOrdersValue N → Type 0
  AsksAndWaits feed came before after =
      Waits feed came (dealings_of before) (dealings_of after) × AddsOrder (waited_value feed (version_alone came)) before after

  -- each of these orders was asked for, one after the other
  abbrev pub AsksOrders : List OrderValue → WorkerOrdersValue N → WorkerOrdersValue N → Type 0
  AsksOrders [] before after = after ≡ before
  AsksOrders (order ∷ orders) before after = (between : WorkerOrdersValue N) × AsksOrder order before between × AsksOrders orders between after

  -- each order that was asked for here did this, from the first on: so all that was put at the queue and received of it comes from these orders.
  -- How often the end had tried before is nothing that an order shows
  abbrev pub HasAsked : WorkerOrdersValue N → Type 0
  HasAsked orders = (tries : ℕ) × AsksOrders orders.asked (nothing_asked (route_of orders) tries) orders
