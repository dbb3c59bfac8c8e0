-- The stops of each row by which some are listed.
use Rattle.std.specs.Prelude.{◌≡◌, ◌==◌, ◌++◌, ◌∷◌, [], ℕ, List, length, filter, Option, Some, None, if◌then◌else◌}
use Rattle.std.specs.Global.{Vec}
use Rattle.std.specs.List.{range_with_len, slice_get, slice_index_or}
use Rattle.reasoning.specs.Options.{is_that_number}

-- of the rows below n, the indices of those that are listed by the row at an index
abbrev pub stops_below : List (Option ℕ) → ℕ → ℕ → List ℕ
stops_below homes n home = filter (λ k. is_that_number (slice_index_or homes k None) home) (range_with_len 0 n)

-- each of so many groups has these of the rows below n
pub record AreGroupsBelow (homes : List (Option ℕ)) (count n : ℕ) (groups : List (Vec ℕ)) : Type 0 where
  pub count_is : length groups ≡ count
  pub each : (home : ℕ) (group : Vec ℕ) → slice_get groups home ≡ Some group → group.items ≡ stops_below homes n home

abbrev pub AreGroups : List (Option ℕ) → ℕ → List (Vec ℕ) → Type 0
AreGroups homes count groups = AreGroupsBelow homes count (length homes) groups

-- a row was added to the end of one group, if there is that group
pub record IsPutInto (home stop : ℕ) (old new : List (Vec ℕ)) : Type 0 where
  pub same : length new ≡ length old
  pub grown : (k : ℕ) (group : Vec ℕ) → slice_get new k ≡ Some group
      → (before : Vec ℕ) × (slice_get old k ≡ Some before) × (group.items ≡ before.items ++ (if home == k then stop ∷ [] else []))
