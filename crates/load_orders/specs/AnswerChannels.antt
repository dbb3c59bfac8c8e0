-- The answer channel from the loader to a worker that waits for a load.
use Rattle.std.specs.Prelude.{◌≡◌, ◌++◌, ◌∷◌, ℕ, List, [], slice_get, Option, Some, None}
use Rattle.crossbeam_channel.specs.Fifo.{Pops}
use Rattle.atomic_table.specs.Seated.{TableId}
use Rattle.handoff.specs.Queue.{Held}
use Rattle.load_orders.specs.declared.answer_channels.LoadAnswer.{LoadAnswer}
use Rattle.load_orders.specs.declared.answer_channels.AnswerView.{AnswerView}

-- which answer channel, of all that there are
abbrev pub AnswerChannelId : Type 0
AnswerChannelId = TableId

-- an answer channel, and the answers that were sent or received there by one end, in order
pub record AnswerEndValue (N : Type 0) : Type 0 where
  pub channel : AnswerChannelId
  pub answers : List (LoadAnswer N)

abbrev pub answers_of : {N : Type 0} → AnswerView N → List (LoadAnswer N)
answers_of AnswerView.Whole = []
answers_of (AnswerView.Sending sent) = sent
answers_of (AnswerView.Receiving received) = received

-- what is received at an answer channel: this one answer, or nothing
abbrev pub received_at : {N : Type 0} → AnswerChannelId → Option (LoadAnswer N) → AnswerEndValue N
received_at channel (Some answer) = record { channel = channel; answers = answer ∷ [] }
received_at channel None = record { channel = channel; answers = [] }

-- ends at which nothing was sent or received
abbrev pub new_channel : {N : Type 0} → AnswerView N
new_channel = AnswerView.Whole

abbrev pub none_sent : {N : Type 0} → AnswerView N
none_sent = AnswerView.Sending []

abbrev pub none_received : {N : Type 0} → AnswerView N
none_received = AnswerView.Receiving []

-- what an answer channel holds, and what its ends know: one end sends, one receives what was sent, in order, and there is no other
abbrev pub IsAnswerChannel : {N : Type 0} → List (LoadAnswer N) → List (AnswerView N) → Type 0
IsAnswerChannel items (AnswerView.Whole ∷ []) = items ≡ []
IsAnswerChannel items (AnswerView.Sending sent ∷ AnswerView.Receiving received ∷ []) = sent ≡ received ++ items
IsAnswerChannel items _ = ⊥

-- an end sends an answer, or receives one
abbrev pub IsOneAnswerMore : {N : Type 0} → AnswerView N → LoadAnswer N → AnswerView N → Type 0
IsOneAnswerMore AnswerView.Whole answer after = ⊥
IsOneAnswerMore (AnswerView.Sending sent) answer after = after ≡ AnswerView.Sending (sent ++ answer ∷ [])
IsOneAnswerMore (AnswerView.Receiving received) answer after = after ≡ AnswerView.Receiving (received ++ answer ∷ [])

-- whatever the ends of an answer channel did: what was received is the beginning of what was sent, and the rest of it is still to be received
abbrev pub ReceivedWasSent : Type 0 → Type 0
ReceivedWasSent N = (items : List (LoadAnswer N)) (ends : List (AnswerView N)) → IsAnswerChannel items ends
    → (i j : ℕ) (sent received : List (LoadAnswer N)) → slice_get ends i ≡ Some (AnswerView.Sending sent) → slice_get ends j
    ≡ Some (AnswerView.Receiving received)
    → sent ≡ received ++ items

-- over a rule of what an answer channel holds, and of what its ends know
module _ {N : Type 0} (rule : List (LoadAnswer N) → List (AnswerView N) → Type 0) where
  -- each receiving keeps the rule
  abbrev pub IsKeptByReceiving : Type 0
  IsKeptByReceiving = (end : ℕ) (received : List (LoadAnswer N)) → Pops rule end (AnswerView.Receiving received)
      (IsOneAnswerMore (AnswerView.Receiving received))

  -- at one moment no answer was in the channel, and one end hadn't received any: the rule held then
  abbrev pub WasEmpty : Type 0
  WasEmpty = Held rule 0 none_received
