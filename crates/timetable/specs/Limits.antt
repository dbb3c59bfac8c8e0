-- Timetables that an image can hold.
use Rattle.std.specs.Prelude.{ℕ, ◌<◌, ◌≤◌, length}
use Rattle.timetable.specs.declared.network.Connection.{Connection}
use Rattle.timetable.specs.declared.network.Footpath.{Footpath}
use Rattle.timetable.specs.declared.limits.TheConstants.{MAX_STOPS, MAX_TRIPS, MAX_CONNECTIONS, MAX_FOOTPATHS, MAX_WALK_SECS, TIME_END}
use Rattle.timetable.specs.TimetableValue.{TimetableValue}
use Rattle.timetable.specs.Legal.{At}

-- the timetable has no more of anything than an image may hold
pub record IsWithinLimits (t : TimetableValue) : Type 0 where
  pub stops : t.stops ≤ MAX_STOPS
  pub trips : t.trips ≤ MAX_TRIPS
  pub connections : length t.connections ≤ MAX_CONNECTIONS
  pub footpaths : length t.footpaths ≤ MAX_FOOTPATHS
  -- all arrivals are before the end of time
  pub times : (i : ℕ) (c : Connection) → At t.connections i c → c.arr < TIME_END
  -- no footpath takes too long
  pub walks : (i : ℕ) (f : Footpath) → At t.footpaths i f → f.secs ≤ MAX_WALK_SECS
