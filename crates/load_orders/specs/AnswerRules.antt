-- Each step at an answer channel keeps its rule.
use Rattle.std.proofs.Common.{◌≡◌, ◌∙◌, ◌++◌, ◌∷◌, ℕ, zero, suc, List, [], refl, sym, ap, arith}
use Rattle.std.proofs.lemmas.List.{append_assoc}
use mathlib.Core.Option.{Option as Found, some, none, some-ne-none}
use lib.ListN.{get_elem?}
use Rattle.crossbeam_channel.specs.Fifo.{Pops, Pushes}
use Rattle.load_orders.specs.AnswerChannels.{IsKeptByReceiving, IsOneAnswerMore, IsAnswerChannel, answers_of}
use Rattle.load_orders.specs.declared.answer_channels.LoadAnswer.{LoadAnswer}
use Rattle.load_orders.specs.declared.answer_channels.AnswerView.{AnswerView}

module _ {N : Type 0} where
  -- the kind of an end that was found, and what it sent or received
  kind : Found (AnswerView N) → ℕ
  kind none = 0
  kind (some AnswerView.Whole) = 0
  kind (some (AnswerView.Sending sent)) = 1
  kind (some (AnswerView.Receiving received)) = 2

  answers_at : Found (AnswerView N) → List (LoadAnswer N)
  answers_at none = []
  answers_at (some side) = answers_of side

  -- the second end doesn't tell
  second_tells : (received sent : List (LoadAnswer N)) (end : ℕ) → ¬ (get_elem? (AnswerView.Receiving received ∷ []) end ≡ some (AnswerView.Sending sent))
  unfolding kind
  second_tells received sent zero is = let e : 2 ≡ 1 = ap kind is in omega (arith, e)
  second_tells received sent (suc end) is = some-ne-none _ (sym is)

  pub tells : (n end : ℕ) (sent : List (LoadAnswer N)) (answer : LoadAnswer N)
      → Pushes IsAnswerChannel n end (AnswerView.Sending sent) answer (IsOneAnswerMore (AnswerView.Sending sent) answer)
  unfolding kind answers_at
  tells n zero sent answer items (AnswerView.Sending t ∷ AnswerView.Receiving h ∷ []) room holds at = (
    AnswerView.Sending (sent ++ answer ∷ []),
    ap (λ l. l ++ answer ∷ []) (sym (ap answers_at at) ∙ holds) ∙ append_assoc h items (answer ∷ []),
    refl,
  )
  tells n (suc end) sent answer items (AnswerView.Sending t ∷ AnswerView.Receiving h ∷ []) room holds at = absurd (second_tells h sent end at)
  tells n zero sent answer items (AnswerView.Whole ∷ []) room holds at = let e : 0 ≡ 1 = ap kind at in absurd (omega (arith, e))
  tells n (suc end) sent answer items (AnswerView.Whole ∷ []) room holds at = absurd (some-ne-none _ (sym at))
  tells n end sent answer items ends room holds at = absurd holds

  pub hears : (end : ℕ) (received : List (LoadAnswer N)) → Pops IsAnswerChannel end (AnswerView.Receiving received)
      (IsOneAnswerMore (AnswerView.Receiving received))
  unfolding kind answers_at
  hears (suc zero) received answer items (AnswerView.Sending t ∷ AnswerView.Receiving h ∷ []) holds at = (
    AnswerView.Receiving (received ++ answer ∷ []),
    holds ∙ ap (λ l. l ++ answer ∷ items) (ap answers_at at) ∙ sym (append_assoc received (answer ∷ []) items),
    refl,
  )
  hears zero received answer items (AnswerView.Sending t ∷ AnswerView.Receiving h ∷ []) holds at = let e : 1 ≡ 2 = ap kind at in absurd (omega (arith, e))
  hears (suc (suc end)) received answer items (AnswerView.Sending t ∷ AnswerView.Receiving h ∷ []) holds at = absurd (some-ne-none _ (sym at))
  hears zero received answer items (AnswerView.Whole ∷ []) holds at = let e : 0 ≡ 2 = ap kind at in absurd (omega (arith, e))
  hears (suc end) received answer items (AnswerView.Whole ∷ []) holds at = absurd (some-ne-none _ (sym at))
  hears end received answer items ends holds at = absurd holds

pub one_receives : {N : Type 0} → IsKeptByReceiving {N = N} IsAnswerChannel
one_receives end received = hears end received
