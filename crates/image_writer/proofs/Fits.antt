-- Numbers of trips fit 32 bits if they are among words that do.
use Rattle.std.proofs.Common.{◌≡◌, ℕ, zero, suc, ◌+◌, ◌<◌, ◌^◌, List, [], ◌∷◌, ◌++◌, length, get_or, map, ap, subst, ◌∙◌, arith}
use Rattle.std.specs.Prelude.{slice_index}
use Rattle.std.proofs.lemmas.List.{get_or-append-add}
use Rattle.std.proofs.lemmas.Option.{same_Some}
use Rattle.timetable.specs.NamesValue.{TripNameValue}
use Rattle.timetable.specs.Legal.{At}

number_at : (number : TripNameValue → ℕ) (trips : List TripNameValue) (i : ℕ) (trip : TripNameValue) → At trips i trip
    → get_or (map number trips) i 0 ≡ number trip
number_at number [] i trip at = absurd cc
number_at number (t ∷ trips) zero trip at = ap number (same_Some t trip at)
number_at number (t ∷ trips) (suc i) trip at = number_at number trips i trip at

pub numbers_fit : (number : TripNameValue → ℕ) (front : List ℕ) (trips : List TripNameValue) (words : List ℕ) → words ≡ front ++ map number trips
    → ((i : ℕ) → slice_index words i < 2 ^ 32) → (i : ℕ) (trip : TripNameValue) → At trips i trip → number trip < 2 ^ 32
numbers_fit number front trips words is fit i trip at =
    let here : get_or words (length front + i) 0 ≡ number trip =
    ap (λ (ws : List ℕ). get_or ws (length front + i) 0) is ∙ get_or-append-add front (map number trips) i 0 ∙ number_at number trips i trip at in
    omega (arith, here, fit (length front + i))

-- what fits fits in front
those_in_front : (front rest : List ℕ) → ((i : ℕ) → slice_index (front ++ rest) i < 2 ^ 32) → (i : ℕ) → slice_index front i < 2 ^ 32
those_in_front [] rest fit i = omega arith
those_in_front (w ∷ front) rest fit zero = fit zero
those_in_front (w ∷ front) rest fit (suc i) = those_in_front front rest (λ k. fit (suc k)) i

pub front_fits : (front rest words : List ℕ) → words ≡ front ++ rest → ((i : ℕ) → slice_index words i < 2 ^ 32) → (i : ℕ) → slice_index front i < 2 ^ 32
front_fits front rest words is fit = those_in_front front rest (subst (λ (ws : List ℕ). (i : ℕ) → slice_index ws i < 2 ^ 32) is fit)
