-- The listed connections: one from each row of each run to the next, by departure, arrival, run and position.
use Rattle.std.specs.Prelude.{◌≡◌, ◌<◌, ◌≤◌, ℕ, ℤ, ◌+ℤ◌, List, Contains}
use Rattle.gtfs_rows.specs.declared.rows.StopTimeRow.{StopTimeRow}
use Rattle.gtfs_tables.specs.Joined.{rows_of}
use Rattle.gtfs_tables.specs.declared.tables.Feed.{Feed}
use Rattle.gtfs_tables.specs.declared.tables.Trip.{Trip}
use Rattle.service_days.specs.Zones.{IsDayStart}
use Rattle.service_days.specs.declared.zone.Zone.{Zone}
use Rattle.timetable.specs.Legal.{At}
use Rattle.timetable.specs.declared.network.Connection.{Connection}
use Rattle.connections.specs.Hops.{AreInside, HasOutside, IsHop, shift_of}
use Rattle.connections.specs.declared.runs.Run.{Run}

-- the instant from which the times of a run's rows count: the start of its day, plus the shift of a repeat
pub record IsRunStart (zone : Zone) (run : Run) (rows : List StopTimeRow) (start : ℤ) : Type 0 where
  pub day : ℤ
  pub is_day : IsDayStart zone run.day day
  pub is : start ≡ (day +ℤ shift_of run.start rows)

-- the run of a number has these rows, whose times count from this instant
pub record IsRunAt (feed : Feed) (zone : Zone) (runs : List Run) (number : ℕ) (start : ℤ) (rows : List StopTimeRow) : Type 0 where
  pub run : Run
  pub trip : Trip
  pub is_run : At runs number run
  pub is_trip : At feed.trips.items run.trip trip
  pub starts : IsRunStart zone run rows start
  pub rows_are : rows ≡ rows_of feed.stop_times.items trip

-- c is the connection of a run at a position
pub record IsRunHop (feed : Feed) (zone : Zone) (base : ℤ) (runs : List Run) (number position : ℕ) (c : Connection) : Type 0 where
  pub start : ℤ
  pub rows : List StopTimeRow
  pub run_at : IsRunAt feed zone runs number start rows
  pub hop : IsHop base start rows number position c

-- all times of the first n runs that count are in range
abbrev pub AreFirstInside : Feed → Zone → ℤ → List Run → ℕ → Type 0
AreFirstInside feed zone base runs n = (number : ℕ) (start : ℤ) (rows : List StopTimeRow) → number < n
    → (at : IsRunAt feed zone runs number start rows) → AreInside base start at.run.start rows

-- all times of all runs that count are in range
abbrev pub AreRunsInside : Feed → Zone → ℤ → List Run → Type 0
AreRunsInside feed zone base runs = (number : ℕ) (start : ℤ) (rows : List StopTimeRow) → (at : IsRunAt feed zone runs number start rows)
    → AreInside base start at.run.start rows

-- the first of the runs that has a time that counts and is out of range
pub record IsFirstOutside (feed : Feed) (zone : Zone) (base : ℤ) (runs : List Run) (run : Run) : Type 0 where
  pub number : ℕ
  pub start : ℤ
  pub rows : List StopTimeRow
  pub run_at : IsRunAt feed zone runs number start rows
  pub run_is : run_at.run ≡ run
  pub earlier : AreFirstInside feed zone base runs number
  pub outside : HasOutside base start run.start rows

-- connection c at position p comes before d at position q
pub record IsBefore (c d : Connection) (p q : ℕ) : Type 0 where
  pub by_departure : c.dep ≤ d.dep
  pub by_arrival : c.dep ≡ d.dep → c.arr ≤ d.arr
  pub by_run : c.dep ≡ d.dep → c.arr ≡ d.arr → c.trip ≤ d.trip
  pub by_position : c.dep ≡ d.dep → c.arr ≡ d.arr → c.trip ≡ d.trip → p < q

-- the connections are those of all runs at all positions, in order
pub record AreListed (feed : Feed) (zone : Zone) (base : ℤ) (runs : List Run) (connections : List Connection) : Type 0 where
  pub each : (r p : ℕ) (c : Connection) → IsRunHop feed zone base runs r p c → Contains connections c
  pub only : (c : Connection) → Contains connections c → (r : ℕ) × (p : ℕ) × IsRunHop feed zone base runs r p c
  pub in_order : (i j r p s q : ℕ) (c d : Connection) → i < j → At connections i c → At connections j d
      → IsRunHop feed zone base runs r p c → IsRunHop feed zone base runs s q d → IsBefore c d p q
