-- Stops that a list names.
use Rattle.std.specs.Prelude.{◌≡◌, ◌↔◌, ℕ, suc, Bool, true, false, List, Option, None, Some, Contains, slice_get, take}
use Rattle.timetable.specs.NamesValue.{NamesValue}
use Rattle.journeys.specs.Questions.{IsNamed, NamesNone}
use Rattle.departure_lines.specs.declared.stop_lists.WantedStops.{WantedStops}
use Rattle.departure_lines.specs.declared.stop_lists.WantedStops.TheVariants.{All, Of}

-- there is a mark, and it is set
abbrev pub is_set : Option Bool → Bool
is_set None = false
is_set (Some mark) = mark

-- whether a stop is wanted
abbrev pub is_wanted : WantedStops → ℕ → Bool
is_wanted All stop = true
is_wanted (Of marks) stop = is_set (slice_get marks.items stop)

-- each listed name is a stop_id, and a stop is wanted exactly if it is the lowest that has one of the names
pub record AreWanted (names : NamesValue) (listed : List (List ℕ)) (wanted : WantedStops) : Type 0 where
  pub all_named : (name : List ℕ) → Contains listed name → (stop : ℕ) × IsNamed names name stop
  pub exactly : (stop : ℕ) → (is_wanted wanted stop ≡ true) ↔ ((name : List ℕ) × Contains listed name × IsNamed names name stop)

-- the same for marks
pub record AreMarked (names : NamesValue) (listed : List (List ℕ)) (marks : List Bool) : Type 0 where
  pub all_named : (name : List ℕ) → Contains listed name → (stop : ℕ) × IsNamed names name stop
  pub exactly : (stop : ℕ) → (slice_get marks stop ≡ Some true) ↔ ((name : List ℕ) × Contains listed name × IsNamed names name stop)

-- the name with this number, from 1 on, isn't a stop_id, and all before it are
pub record IsUnknownLine (names : NamesValue) (listed : List (List ℕ)) (number : ℕ) : Type 0 where
  pub index : ℕ
  pub name : List ℕ
  pub numbered : number ≡ suc index
  pub stands : slice_get listed index ≡ Some name
  pub unknown : NamesNone names name
  pub before : (other : List ℕ) → Contains (take index listed) other → (stop : ℕ) × IsNamed names other stop
