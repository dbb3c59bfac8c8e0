-- Sets of stops that a list names, in its order.
use Rattle.std.specs.Prelude.{◌≡◌, ◌≢◌, ◌==◌, ◌<◌, ℕ, suc, List, [], Some, AllPairs, Contains, slice_get, take}
use Rattle.std.specs.Global.{Vec}
use Rattle.std.specs.List.{AllZip, slice_split}
use Rattle.timetable.specs.NamesValue.{NamesValue}
use Rattle.journeys.specs.Questions.{IsNamed, NamesNone}
use Rattle.matrix_rows.specs.declared.lists.SetListFault.{SetListFault}
use Rattle.matrix_rows.specs.declared.lists.SetListFault.TheVariants.{Empty, LineTwice, OutOfMemory, StopTwice, UnknownStop}

-- the stop_ids of a line, between its tabs
abbrev pub ids_in : List ℕ → List (List ℕ)
ids_in line = slice_split (λ b. b == 9) line

-- none of them is there twice
abbrev pub AreDifferent : List (List ℕ) → Type 0
AreDifferent listed = AllPairs (λ name later. name ≢ later) listed

-- a set for each line, with a stop for each of its stop_ids, the lowest that has it; no stop_id is twice in a line, and no line is there twice
pub record AreListed (names : NamesValue) (listed : List (List ℕ)) (sets : List (Vec ℕ)) : Type 0 where
  pub named : AllZip (λ line set. AllZip (IsNamed names) (ids_in line) set.items) listed sets
  pub apart : (line : List ℕ) → Contains listed line → AreDifferent (ids_in line)
  pub once : AreDifferent listed

-- each stop_id of each line is that of a stop
abbrev pub AreAllNamed : NamesValue → List (List ℕ) → Type 0
AreAllNamed names listed = (line : List ℕ) → Contains listed line → (id : List ℕ) → Contains (ids_in line) id → (stop : ℕ) × IsNamed names id stop

-- in the line with this number, from 1 on, is what isn't a stop_id, and in none before it
pub record IsUnknownLine (names : NamesValue) (listed : List (List ℕ)) (number : ℕ) : Type 0 where
  pub index : ℕ
  pub line : List ℕ
  pub id : List ℕ
  pub numbered : number ≡ suc index
  pub stands : slice_get listed index ≡ Some line
  pub has : Contains (ids_in line) id
  pub unknown : NamesNone names id
  pub before : AreAllNamed names (take index listed)

-- the line with this number, from 1 on, has a stop_id twice, and none before it has
pub record HasStopTwice (listed : List (List ℕ)) (number : ℕ) : Type 0 where
  pub index : ℕ
  pub line : List ℕ
  pub numbered : number ≡ suc index
  pub stands : slice_get listed index ≡ Some line
  pub twice : AreDifferent (ids_in line) → ⊥
  pub before : (other : List ℕ) → Contains (take index listed) other → AreDifferent (ids_in other)

-- the line with the second number, from 1 on, is that with the first, and before it no line is there twice
pub record IsLineTwice (listed : List (List ℕ)) (first second : ℕ) : Type 0 where
  pub earlier : ℕ
  pub later : ℕ
  pub line : List ℕ
  pub numbered : (first ≡ suc earlier) × (second ≡ suc later)
  pub in_order : earlier < later
  pub stands : slice_get listed earlier ≡ Some line
  pub again : slice_get listed later ≡ Some line
  pub before : AreDifferent (take later listed)

-- why it isn't known which stops are meant
abbrev pub IsUnnamed : NamesValue → List (List ℕ) → SetListFault → Type 0
IsUnnamed names listed (UnknownStop number) = IsUnknownLine names listed number
IsUnnamed names listed (StopTwice number) = ⊥
IsUnnamed names listed (LineTwice first second) = ⊥
IsUnnamed names listed Empty = ⊥
IsUnnamed names listed OutOfMemory = Unit

-- why a list doesn't say which sets of stops are meant
abbrev pub IsListFault : NamesValue → List (List ℕ) → SetListFault → Type 0
IsListFault names listed (UnknownStop number) = IsUnknownLine names listed number
IsListFault names listed (StopTwice number) = AreAllNamed names listed × HasStopTwice listed number
IsListFault names listed (LineTwice first second) = AreAllNamed names listed × IsLineTwice listed first second
IsListFault names listed Empty = listed ≡ []
IsListFault names listed OutOfMemory = Unit
