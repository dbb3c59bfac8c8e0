-- The names of a list, each with whether a stop was found that has it.
use Rattle.std.specs.Prelude.{◌≡◌, ◌≢◌, ◌↔◌, ◌<◌, ℕ, suc, Bool, true, false, not, List, Option, None, Some, Contains, slice_get, take}
use Rattle.std.specs.BTreeMap.{BTreeMap, get_by}
use Rattle.std.specs.Borrow.{Bor}
use Rattle.std.specs.Cmp.Lexicographic.{slice_cmp}
use Rattle.std.specs.Ordering.{nat_cmp}
use Rattle.timetable.specs.Legal.{At}
use Rattle.timetable.specs.NamesValue.{NamesValue}
use Rattle.journeys.specs.Questions.{IsNamed}

-- whether a stop was found that has the name; None if the list doesn't have the name
abbrev pub found_at : BTreeMap (Bor (List ℕ)) Bool → List ℕ → Option Bool
found_at found name = get_by (λ k. slice_cmp nat_cmp name k.now) found

-- the list has the name, and no stop was found
abbrev pub is_missing : Option Bool → Bool
is_missing None = false
is_missing (Some found) = not found

-- now a stop was found, if the list has the name
abbrev pub now_found : Option Bool → Option Bool
now_found None = None
now_found (Some found) = Some true

-- the names of a list, before any stop was looked at
pub record AreSought (listed : List (List ℕ)) (found : BTreeMap (Bor (List ℕ)) Bool) : Type 0 where
  pub has : (name : List ℕ) → Contains listed name → found_at found name ≡ Some false
  pub only : (name : List ℕ) → found_at found name ≢ None → Contains listed name

-- the stops below a number were looked at: a listed name is found exactly if one of them has it
pub record AreFoundBelow (names : NamesValue) (listed : List (List ℕ)) (below : ℕ) (found : BTreeMap (Bor (List ℕ)) Bool) : Type 0 where
  pub has : (name : List ℕ) → Contains listed name → found_at found name ≢ None
  pub only : (name : List ℕ) → found_at found name ≢ None → Contains listed name
  pub by_stop : (name : List ℕ) → found_at found name ≡ Some true → (stop : ℕ) × (stop < below) × IsNamed names name stop
  pub by_none : (name : List ℕ) → found_at found name ≡ Some false → (stop : ℕ) → stop < below → ¬ At names.stops stop name

-- a stop is marked exactly if it is below the number, and the lowest that has a listed name
abbrev pub AreMarkedBelow : NamesValue → List (List ℕ) → ℕ → List Bool → Type 0
AreMarkedBelow names listed below marks =
    (stop : ℕ) → (slice_get marks stop ≡ Some true) ↔ ((stop < below) × ((name : List ℕ) × Contains listed name × IsNamed names name stop))

-- the line with this number, from 1 on, is the first whose name wasn't found
pub record IsFirstMissing (found : BTreeMap (Bor (List ℕ)) Bool) (listed : List (List ℕ)) (number : ℕ) : Type 0 where
  pub index : ℕ
  pub name : List ℕ
  pub numbered : number ≡ suc index
  pub at : slice_get listed index ≡ Some name
  pub missing : found_at found name ≢ Some true
  pub before : (other : List ℕ) → Contains (take index listed) other → found_at found other ≡ Some true
