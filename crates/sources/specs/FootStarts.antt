-- Where the footpaths into each stop start, in the order that a legal timetable requires.
use Rattle.std.specs.Prelude.{◌≡◌, ◌↔◌, ℕ, ◌+◌, ◌<◌, ◌≤◌, List, length, take, slice_index}
use Rattle.timetable.specs.declared.network.Connection.{Connection}
use Rattle.timetable.specs.declared.network.Footpath.{Footpath}
use Rattle.timetable.specs.TimetableValue.{TimetableValue}
use Rattle.timetable.specs.Legal.{At}

-- a timetable by its lists
abbrev pub of_lists : ℕ → ℕ → List Connection → List Footpath → TimetableValue
of_lists stops trips connections footpaths = record { stops = stops; trips = trips; connections = connections; footpaths = footpaths }

-- the footpaths into stops below a stop are those at indices below `index`
pub record IsStartIndex (t : TimetableValue) (stop index : ℕ) : Type 0 where
  pub within : index ≤ length t.footpaths
  pub exact : (k : ℕ) (f : Footpath) → At t.footpaths k f → (f.to < stop) ↔ (k < index)

-- a starting index for each stop, and one for the end of the list
pub record AreStarts (t : TimetableValue) (indices : List ℕ) : Type 0 where
  pub each : length indices ≡ t.stops + 1
  pub start : (stop : ℕ) → stop ≤ t.stops → IsStartIndex t stop (slice_index indices stop)

-- the first footpaths: all those into stops below a stop
pub record HoldsBelow (t : TimetableValue) (stop : ℕ) (footpaths : List Footpath) : Type 0 where
  pub first : footpaths ≡ take (length footpaths) t.footpaths
  pub start : IsStartIndex t stop (length footpaths)
