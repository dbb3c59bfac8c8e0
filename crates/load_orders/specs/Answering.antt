-- What the loader sends of the orders that it took.
use Rattle.std.specs.Prelude.{◌≡◌, ◌⊎◌, ◌++◌, ◌∷◌, Bool, false, true, List, [], length, MatchBool, Option, Some, None, ⊤}
use Rattle.handoff.specs.Queue.{Held, QueueRule}
use Rattle.handoff.specs.declared.queue.EndView.{EndView}
use Rattle.load_orders.specs.Keeping.{OrderQueueId}
use Rattle.load_orders.specs.AnswerChannels.{AnswerChannelId, AnswerEndValue}
use Rattle.load_orders.specs.declared.queue.Order.{Order}
use Rattle.load_orders.specs.declared.answer_channels.LoadAnswer.{LoadAnswer}

-- an answer, and where it was sent, if a worker may wait for it
pub record AnsweredValue (N : Type 0) : Type 0 where
  pub answer : LoadAnswer N
  pub sent : Option (AnswerEndValue N)

-- the loader's end of a queue
pub record LoaderOrdersValue (N : Type 0) : Type 0 where
  pub queue : OrderQueueId N
  pub taken : List (Order N)  -- in order
  pub answered : List (AnsweredValue N)  -- in order
  pub over : Bool  -- it asked for another one, and none came
  pub closed : Bool  -- the queue was closed for it

-- the loader's end of a new queue
abbrev pub nothing_taken : {N : Type 0} → OrderQueueId N → LoaderOrdersValue N
nothing_taken queue = record { queue = queue; taken = []; answered = []; over = false; closed = false }

-- each order that was taken was answered
abbrev pub AllAnswered : {N : Type 0} → LoaderOrdersValue N → Type 0
AllAnswered end = length end.answered ≡ length end.taken

-- the answer is sent at this answer channel, once, or nothing is
abbrev pub IsSentAt : {N : Type 0} → AnswerChannelId → LoadAnswer N → AnswerEndValue N → Type 0
IsSentAt channel answer sent = (sent ≡ record { channel = channel; answers = answer ∷ [] }) ⊎ (sent ≡ record { channel = channel; answers = [] })

-- where a worker waits, this answer is sent by the order's own answer channel, once, or nothing is
abbrev pub IsSentBack : {N : Type 0} → Option AnswerChannelId → LoadAnswer N → Option (AnswerEndValue N) → Type 0
IsSentBack (Some channel) answer (Some sent) = IsSentAt channel answer sent
IsSentBack None answer sent = sent ≡ None
IsSentBack _ answer sent = ⊥

-- what came of this order is sent back, and noted behind what was answered before
abbrev pub AnswersOrder : {N : Type 0} → Order N → LoadAnswer N → LoaderOrdersValue N → LoaderOrdersValue N → Type 0
AnswersOrder {N} order answer before after = (sent : Option (AnswerEndValue N)) × IsSentBack order.answer_channel answer sent
    × (after ≡ record before { answered = before.answered ++ record { answer = answer; sent = sent } ∷ [] })

-- an order is taken at an open end, and something comes with it; or none comes any more: the queue is closed for the loader, or else was empty at one
-- moment, by its rule
abbrev pub TakesOrder : {N T : Type 0} → QueueRule (Order N) → Option (Order N × T) → LoaderOrdersValue N → LoaderOrdersValue N → Type 0
TakesOrder rule (Some next) before after = (before.closed ≡ false) × (after ≡ record before { taken = before.taken ++ next.0 ∷ []; over = false })
TakesOrder rule None before after = (after ≡ record before { over = true; closed = after.closed })
    × MatchBool after.closed ⊤ ((before.closed ≡ false) × Held rule 0 (EndView.Taking before.taken 0))
