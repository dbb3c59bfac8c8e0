-- Walks over listed footpaths, and the least time of those between two stops.
use Rattle.std.specs.Prelude.{◌≡◌, ◌≢◌, ℕ, ◌≤◌, List, []}
use Rattle.timetable.specs.declared.network.Footpath.{Footpath}
use Rattle.timetable.specs.TimetableValue.{TimetableValue}
use Rattle.timetable.specs.Journeys.{IsWalk, walk_end, walk_secs}

-- a timetable with nothing but footpaths, over which a walk goes
abbrev pub on_foot : List Footpath → TimetableValue
on_foot listed = record { stops = 0; trips = 0; connections = []; footpaths = listed }

-- a walk of at least one listed footpath, from a stop to a stop
pub record IsWalkBetween (listed : List Footpath) (from to : ℕ) (walk : List Footpath) : Type 0 where
  pub leads : IsWalk (on_foot listed) from walk
  pub some : walk ≢ []
  pub ends : walk_end from walk ≡ to

-- there is such a walk
abbrev pub AreJoined : List Footpath → ℕ → ℕ → Type 0
AreJoined listed from to = (walk : List Footpath) × IsWalkBetween listed from to walk

-- one of the walks takes `secs` seconds, and none takes less
pub record IsLeastTime (listed : List Footpath) (from to secs : ℕ) : Type 0 where
  pub walked : (walk : List Footpath) × IsWalkBetween listed from to walk × (walk_secs walk ≡ secs)
  pub least : (walk : List Footpath) → IsWalkBetween listed from to walk → secs ≤ walk_secs walk
