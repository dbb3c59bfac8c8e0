-- A name that a list has twice.
use Rattle.std.specs.Prelude.{◌≡◌, ◌<◌, ℕ, List, Option, None, Some, slice_get, take}
use Rattle.std.specs.BTreeMap.{BTreeMap, get_by}
use Rattle.std.specs.Borrow.{Bor}
use Rattle.std.specs.Cmp.Lexicographic.{slice_cmp}
use Rattle.std.specs.Ordering.{nat_cmp}
use Rattle.matrix_rows.specs.Listed.{AreDifferent}

-- where a name is among those that were gone through, if it is
abbrev pub first_index_at : BTreeMap (Bor (List ℕ)) ℕ → List ℕ → Option ℕ
first_index_at list_indices name = get_by (λ k. slice_cmp nat_cmp name k.now) list_indices

-- the second of two indices is the first at which a name is there again, and the first is where it was
pub record IsRepeated (listed : List (List ℕ)) (earlier later : ℕ) : Type 0 where
  pub name : List ℕ
  pub in_order : earlier < later
  pub stands : slice_get listed earlier ≡ Some name
  pub again : slice_get listed later ≡ Some name
  pub before : AreDifferent (take later listed)

abbrev pub AreTheRepeated : List (List ℕ) → Option (ℕ × ℕ) → Type 0
AreTheRepeated listed None = AreDifferent listed
AreTheRepeated listed (Some list_indices) = IsRepeated listed list_indices.0 list_indices.1
