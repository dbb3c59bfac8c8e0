-- The element at an index of a list.
use Rattle.std.proofs.Common.{◌≡◌, ◌<◌, ◌≤◌, ℕ, zero, suc, List, [], ◌∷◌, length, map, get_or, Some, None, refl, ap, subst}
use Rattle.std.specs.List.{slice_get}
use Rattle.std.proofs.lemmas.Option.{same_Some, none-some, slice_get_read, slice_get_past}
use Rattle.timetable.specs.Legal.{At}

-- what stands at a place of a list that was mapped
pub at_map : {X Y : Type 0} (f : X → Y) (xs : List X) (i : ℕ) (x : X) → At xs i x → At (map f xs) i (f x)
at_map f [] i x at = absurd (none-some x at)
at_map {X} {Y} f (y ∷ xs) zero x at = ap (λ (z : X). Some (f z)) (same_Some y x at)
at_map f (y ∷ xs) (suc i) x at = at_map f xs i x at

pub from_map : {X Y : Type 0} (f : X → Y) (xs : List X) (i : ℕ) (y : Y) → At (map f xs) i y → (x : X) × At xs i x × (f x ≡ y)
from_map f [] i y at = absurd (none-some y at)
from_map f (x ∷ xs) zero y at = (x, refl, same_Some (f x) y at)
from_map f (x ∷ xs) (suc i) y at = from_map f xs i y at

-- what is read of a list that was lent stands in the list itself, and what lies past its end doesn't
pub at_lent : {X : Type 0} (lent own : List X) (i : ℕ) (x : X) → lent ≡ own → i < length lent → x ≡ get_or lent i x → At own i x
at_lent {X} lent own i x same below is = subst (λ (xs : List X). At xs i x) same (slice_get_read lent (length lent) i x refl below is)

pub past_lent : {X : Type 0} (lent own : List X) (i : ℕ) → lent ≡ own → length lent ≤ i → slice_get own i ≡ None
past_lent {X} lent own i same past = subst (λ (xs : List X). slice_get xs i ≡ None) same (slice_get_past lent i past)
