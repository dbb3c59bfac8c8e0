-- What a legal timetable requires of its connections.
use Rattle.std.specs.Prelude.{◌≡◌, ◌+◌, ◌<◌, ◌≤◌, ℕ, List, length}
use Rattle.timetable.specs.Legal.{At, IsJustBefore}
use Rattle.timetable.specs.declared.limits.TheConstants.{MAX_CONNECTIONS, MAX_TRIPS, TIME_END}
use Rattle.timetable.specs.declared.network.Connection.{Connection}

-- a legal timetable with this many stops and trips may have these connections
pub record HasLegalConnections (stops trips : ℕ) (connections : List Connection) : Type 0 where
  pub stops_in_range : (i : ℕ) (c : Connection) → At connections i c → (c.from < stops) × (c.to < stops)
  pub trips_in_range : (i : ℕ) (c : Connection) → At connections i c → c.trip < trips
  pub takes_time : (i : ℕ) (c : Connection) → At connections i c → c.dep < c.arr
  pub departures_never_fall : (i : ℕ) (c d : Connection) → At connections i c → At connections (i + 1) d → c.dep ≤ d.dep
  pub unbroken : (i j : ℕ) (c d : Connection) → IsJustBefore connections i j c d → (c.to ≡ d.from) × (c.arr ≤ d.dep)

-- the trips and the connections are within the limits of an image
pub record AreWithinLimits (trip_count : ℕ) (connections : List Connection) : Type 0 where
  pub trips : trip_count ≤ MAX_TRIPS
  pub few : length connections ≤ MAX_CONNECTIONS
  pub times : (i : ℕ) (c : Connection) → At connections i c → c.arr < TIME_END
