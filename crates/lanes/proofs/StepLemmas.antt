-- Steps, eight of each boarding.
use Rattle.std.proofs.Common.{◌≡◌, ℕ, zero, suc, ◌+◌, ◌*◌, ◌/◌, ◌%◌, ◌<◌, ◌≤◌, List, [], ◌∷◌, ◌++◌, length, slice_get, slice_index, Option, Some, None}
use Rattle.std.proofs.Common.{inl, inr, refl, sym, ap, ◌∙◌, arith}
use Rattle.std.proofs.lemmas.Option.{slice_get_within}
use Rattle.reasoning.proofs.OptionLemmas.{option_cases}
use Rattle.fronts.specs.declared.entry.Boarding.{Boarding}
use Rattle.fronts.specs.declared.entry.Step.{Step}
use Rattle.lanes.specs.StopLanes.{step_of, steps_in, HasSteps}
use Rattle.lanes.specs.declared.stop_lanes.LaneStep.{LaneStep}

abbrev eight : LaneStep → List Step
eight s = step_of s 0 ∷ step_of s 1 ∷ step_of s 2 ∷ step_of s 3 ∷ step_of s 4 ∷ step_of s 5 ∷ step_of s 6 ∷ step_of s 7 ∷ []

eight_at : (s : LaneStep) (rest : List Step) (k : ℕ) → k < 8 → slice_get (eight s ++ rest) k ≡ Some (step_of s k)
eight_at s rest zero lt = refl
eight_at s rest (suc zero) lt = refl
eight_at s rest (suc (suc zero)) lt = refl
eight_at s rest (suc (suc (suc zero))) lt = refl
eight_at s rest (suc (suc (suc (suc zero)))) lt = refl
eight_at s rest (suc (suc (suc (suc (suc zero))))) lt = refl
eight_at s rest (suc (suc (suc (suc (suc (suc zero)))))) lt = refl
eight_at s rest (suc (suc (suc (suc (suc (suc (suc zero))))))) lt = refl
eight_at s rest (suc (suc (suc (suc (suc (suc (suc (suc k)))))))) lt = absurd (omega (arith, lt))

steps_push : (ss : List LaneStep) (s : LaneStep) → steps_in (ss ++ s ∷ []) ≡ steps_in ss ++ eight s
steps_push [] s = refl
steps_push (t ∷ ts) s = ap (λ rest. eight t ++ rest) (steps_push ts s)

pub steps_long : (ss : List LaneStep) → length (steps_in ss) ≡ 8 * length ss
steps_long [] = refl
steps_long (t ∷ ts) = let r = steps_long ts in omega (arith, r)

at_behind : {X : Type 0} (xs ys : List X) (k : ℕ) → slice_get (xs ++ ys) (length xs + k) ≡ slice_get ys k
at_behind [] ys k = let e : 0 + k ≡ k = omega arith in ap (slice_get ys) e
at_behind (x ∷ xs) ys k =
    let e : suc (length xs) + k ≡ suc (length xs + k) = omega arith in
    ap (slice_get (x ∷ xs ++ ys)) e ∙ at_behind xs ys k

-- the steps of one boarding more
pub has_steps : (old new : List LaneStep) (s : LaneStep) → new ≡ old ++ s ∷ [] → (boarding : Boarding) (labels : List ℕ) (first : ℕ)
    → s ≡ record { first = boarding.first; walk = boarding.walk; labels = labels } → first ≡ 8 * length old
    → HasSteps boarding labels (steps_in old) first (steps_in new)
has_steps old new s is boarding labels first step first_is =
    let pushed : steps_in new ≡ steps_in old ++ eight s = ap steps_in is ∙ steps_push old s in
    let place : first ≡ length (steps_in old) = first_is ∙ sym (steps_long old) in
    record {
      more = (eight s, pushed);
      place = place;
      each = λ k lt.
          ap (λ ss. slice_get ss (first + k)) pushed
          ∙ ap (λ n. slice_get (steps_in old ++ eight s) (n + k)) place
          ∙ at_behind (steps_in old) (eight s) k
          ∙ eight_at s [] k lt
          ∙ ap (λ (t : LaneStep). Some (step_of t k)) step;
    }

-- the first of them
pub first_step : (boarding : Boarding) (labels : List ℕ) (old : List Step) (first : ℕ) (new : List Step) → HasSteps boarding labels old first new
    → slice_get new (length old) ≡ Some (record { first = boarding.first; label = slice_index labels 0; walk = boarding.walk })
first_step boarding labels old first new has =
    let place = has.place in
    let e : length old ≡ first + 0 = omega (arith, place) in
    ap (slice_get new) e ∙ has.each 0 (omega arith)

abbrev step_if : ℕ → Option LaneStep → Option Step
step_if k None = None
step_if k (Some s) = Some (step_of s k)

-- which step a tag names
pub step_at : (ss : List LaneStep) (i k : ℕ) → k < 8 → slice_get (steps_in ss) (8 * i + k) ≡ step_if k (slice_get ss i)
step_at [] i k lt = refl
step_at (s ∷ ss) zero k lt = let e : 8 * 0 + k ≡ k = omega arith in ap (slice_get (steps_in (s ∷ ss))) e ∙ eight_at s (steps_in ss) k lt
step_at (s ∷ ss) (suc i) k lt =
    let on : 8 * suc i + k ≡ suc (suc (suc (suc (suc (suc (suc (suc (8 * i + k)))))))) = omega arith in
    ap (slice_get (steps_in (s ∷ ss))) on ∙ step_at ss i k lt

-- the step of a tag
pub step_there : (ss : List LaneStep) (tag : ℕ) (s : LaneStep) → slice_get ss (tag / 8) ≡ Some s → Some (step_of s (tag % 8)) ≡ slice_get (steps_in ss) tag
step_there ss tag s there =
    let parts : 8 * (tag / 8) + tag % 8 ≡ tag = omega arith in
    let lt : tag % 8 < 8 = omega arith in
    sym (sym (ap (slice_get (steps_in ss)) parts) ∙ step_at ss (tag / 8) (tag % 8) lt ∙ ap (step_if (tag % 8)) there)

pub no_step : (ss : List LaneStep) (tag : ℕ) → length ss ≤ tag / 8 → None ≡ slice_get (steps_in ss) tag
no_step ss tag past = elim (option_cases (slice_get (steps_in ss) tag)) [
  | inl none ↦ sym none
  | inr some ↦
      let within = slice_get_within (steps_in ss) tag some.0 some.1 in
      let long = steps_long ss in
      absurd (omega (arith, within, long, past))
]
