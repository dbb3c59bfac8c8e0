-- The names of a list, each with the lowest stop that was found to have it.
use Rattle.std.specs.Prelude.{◌≡◌, ◌≢◌, ◌<◌, ℕ, suc, List, Option, None, Some, Contains, slice_get, take}
use Rattle.std.specs.Global.{Vec}
use Rattle.std.specs.List.{AllZip}
use Rattle.std.specs.BTreeMap.{BTreeMap, get_by}
use Rattle.std.specs.Borrow.{Bor}
use Rattle.std.specs.Cmp.Lexicographic.{slice_cmp}
use Rattle.std.specs.Ordering.{nat_cmp}
use Rattle.timetable.specs.Legal.{At}
use Rattle.timetable.specs.NamesValue.{NamesValue}
use Rattle.journeys.specs.Questions.{IsNamed}
use Rattle.matrix_rows.specs.declared.lists.SetListFault.{SetListFault}
use Rattle.matrix_rows.specs.declared.lists.SetListFault.TheVariants.{Empty, LineTwice, OutOfMemory, StopTwice, UnknownStop}
use Rattle.matrix_rows.specs.Listed.{ids_in}

-- the stop that was found for a name, if one was; None if the list doesn't have the name
abbrev pub found_at : BTreeMap (Bor (List ℕ)) (Option ℕ) → List ℕ → Option (Option ℕ)
found_at found name = get_by (λ k. slice_cmp nat_cmp name k.now) found

-- the stop that was found before, or else this one
abbrev pub first_of : Option ℕ → ℕ → ℕ
first_of None stop = stop
first_of (Some first) stop = first

-- what is known of a name that this stop has
abbrev pub now_found : ℕ → Option (Option ℕ) → Option (Option ℕ)
now_found stop None = None
now_found stop (Some first) = Some (Some (first_of first stop))

-- the stop that was found, if the list has the name and one was found
abbrev pub stop_in : Option (Option ℕ) → Option ℕ
stop_in None = None
stop_in (Some found) = found

-- the names of a list, before any stop was looked at
pub record AreSought (listed : List (List ℕ)) (found : BTreeMap (Bor (List ℕ)) (Option ℕ)) : Type 0 where
  pub has : (name : List ℕ) → Contains listed name → found_at found name ≡ Some None
  pub none : (name : List ℕ) → stop_in (found_at found name) ≡ None

-- the stops below a number were looked at: for a listed name that one of them has, the lowest was found
pub record AreFoundBelow (names : NamesValue) (listed : List (List ℕ)) (below : ℕ) (found : BTreeMap (Bor (List ℕ)) (Option ℕ)) : Type 0 where
  pub has : (name : List ℕ) → Contains listed name → found_at found name ≢ None
  pub by_stop : (name : List ℕ) (stop : ℕ) → stop_in (found_at found name) ≡ Some stop → IsNamed names name stop
  pub by_none : (name : List ℕ) → found_at found name ≡ Some None → (stop : ℕ) → stop < below → ¬ At names.stops stop name

-- for one of these names no stop was found
abbrev pub IsOneMissing : BTreeMap (Bor (List ℕ)) (Option ℕ) → List (List ℕ) → Type 0
IsOneMissing found listed = (name : List ℕ) × Contains listed name × (stop_in (found_at found name) ≡ None)

-- the stop that was found for each of these names
abbrev pub AreFound : BTreeMap (Bor (List ℕ)) (Option ℕ) → List (List ℕ) → List ℕ → Type 0
AreFound found listed stops = AllZip (λ name stop. stop_in (found_at found name) ≡ Some stop) listed stops

-- the line with this number, from 1 on, is the first that has a stop_id for which no stop was found
pub record IsFirstMissing (found : BTreeMap (Bor (List ℕ)) (Option ℕ)) (listed : List (List ℕ)) (number : ℕ) : Type 0 where
  pub index : ℕ
  pub line : List ℕ
  pub numbered : number ≡ suc index
  pub stands : slice_get listed index ≡ Some line
  pub missing : IsOneMissing found (ids_in line)
  pub sets : List (Vec ℕ)
  pub before : AllZip (λ line set. AreFound found (ids_in line) set.items) (take index listed) sets

-- why no stop was found for some stop_id
abbrev pub IsMissing : BTreeMap (Bor (List ℕ)) (Option ℕ) → List (List ℕ) → SetListFault → Type 0
IsMissing found listed (UnknownStop number) = IsFirstMissing found listed number
IsMissing found listed (StopTwice number) = ⊥
IsMissing found listed (LineTwice first second) = ⊥
IsMissing found listed Empty = ⊥
IsMissing found listed OutOfMemory = Unit
