-- How one more message changes what waits.
use Rattle.std.proofs.Common.{◌≡◌, ◌∙◌, ◌+◌, ◌++◌, ◌∷◌, ℕ, List, [], refl, ap, arith}
use Rattle.handoff.specs.Queue.{AreClosedLast, closings_in, waiting_in}
use Rattle.handoff.specs.declared.queue.Message.{Message}

module _ {I : Type 0} where
  -- a list that has a first element isn't empty
  size : List I → ℕ
  size [] = 0
  size (first ∷ rest) = 1

  pub waits : (first : I) (rest : List I) → ¬ (first ∷ rest ≡ [])
  unfolding size
  waits first rest empty = let n : 1 ≡ 0 = ap size empty in omega (arith, n)

  -- an item behind the others
  pub waits_more : (items : List (Message I)) (item : I)
      → waiting_in (items ++ Message.Item item ∷ []) ≡ waiting_in items ++ item ∷ []
  waits_more [] item = refl
  waits_more (Message.Item first ∷ rest) item = ap (λ list. first ∷ list) (waits_more rest item)
  waits_more (Message.Closing ∷ rest) item = waits_more rest item

  pub closes_same : (items : List (Message I)) (item : I) → closings_in (items ++ Message.Item item ∷ []) ≡ closings_in items
  closes_same [] item = refl
  closes_same (Message.Item first ∷ rest) item = closes_same rest item
  closes_same (Message.Closing ∷ rest) item = let more = closes_same rest item in omega (arith, more)

  pub item_last : (items : List (Message I)) (item : I) → closings_in items ≡ 0 → AreClosedLast items
      → AreClosedLast (items ++ Message.Item item ∷ [])
  item_last [] item fresh last = tt
  item_last (Message.Item first ∷ rest) item fresh last = item_last rest item fresh last
  item_last (Message.Closing ∷ rest) item fresh last = absurd (omega (arith, fresh))

  -- a closing behind the others
  pub waits_same : (items : List (Message I)) → waiting_in (items ++ Message.Closing ∷ []) ≡ waiting_in items
  waits_same [] = refl
  waits_same (Message.Item first ∷ rest) = ap (λ list. first ∷ list) (waits_same rest)
  waits_same (Message.Closing ∷ rest) = waits_same rest

  pub closes_more : (items : List (Message I)) → closings_in (items ++ Message.Closing ∷ []) ≡ closings_in items + 1
  closes_more [] = refl
  closes_more (Message.Item first ∷ rest) = closes_more rest
  closes_more (Message.Closing ∷ rest) = let more = closes_more rest in omega (arith, more)

  pub closing_last : (items : List (Message I)) → AreClosedLast items → AreClosedLast (items ++ Message.Closing ∷ [])
  closing_last [] last = refl
  closing_last (Message.Item first ∷ rest) last = closing_last rest last
  closing_last (Message.Closing ∷ rest) last = waits_same rest ∙ last

  -- where no item waits, none waits behind a closing
  pub nothing_last : (items : List (Message I)) → waiting_in items ≡ [] → AreClosedLast items
  nothing_last [] none = tt
  nothing_last (Message.Item first ∷ rest) none = absurd (waits first (waiting_in rest) none)
  nothing_last (Message.Closing ∷ rest) none = none
