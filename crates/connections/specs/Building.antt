-- The connections of the runs before they are sorted.
use Rattle.std.specs.Prelude.{◌≡◌, ◌+◌, ◌-◌, ◌*◌, ◌^◌, ◌<◌, ◌≤◌, ◌⊎◌, ℕ, ℤ, List, length, take, slice_index_or, Contains}
use Rattle.gtfs_rows.specs.declared.rows.StopTimeRow.{StopTimeRow}
use Rattle.gtfs_tables.specs.Joined.{rows_of}
use Rattle.gtfs_tables.specs.declared.tables.Feed.{Feed}
use Rattle.gtfs_tables.specs.declared.tables.Trip.{Trip}
use Rattle.service_days.specs.declared.zone.Zone.{Zone}
use Rattle.timetable.specs.Legal.{At}
use Rattle.timetable.specs.declared.network.Connection.{Connection}
use Rattle.connections.specs.Hops.{AddsHops, AreInside, HasOutside}
use Rattle.connections.specs.Listed.{AreFirstInside, IsRunHop, IsRunStart}
use Rattle.connections.specs.Runs.{count_hops, hops_of}
use Rattle.connections.specs.declared.runs.Run.{Run}

-- the rows of a run, and the instant from which their times count
pub record AreRunRows (feed : Feed) (zone : Zone) (run : Run) (start : ℤ) (rows : List StopTimeRow) : Type 0 where
  pub trip : Trip
  pub is_trip : At feed.trips.items run.trip trip
  pub starts : IsRunStart zone run rows start
  pub rows_are : rows ≡ rows_of feed.stop_times.items trip
  pub hops_are : hops_of trip ≡ length rows - 1

-- the connections of a run were added
pub record AddsRun (feed : Feed) (zone : Zone) (base : ℤ) (run : Run) (number : ℕ) (old new : List Connection) : Type 0 where
  pub start : ℤ
  pub rows : List StopTimeRow
  pub rows_are : AreRunRows feed zone run start rows
  pub inside : AreInside base start run.start rows
  pub adds : AddsHops base start rows number (length rows - 1) old new

-- a time of a run that counts is out of range
pub record LeavesRange (feed : Feed) (zone : Zone) (base : ℤ) (run : Run) : Type 0 where
  pub start : ℤ
  pub rows : List StopTimeRow
  pub rows_are : AreRunRows feed zone run start rows
  pub outside : HasOutside base start run.start rows

-- the first connection is of an earlier run, or departs earlier in the same run
abbrev pub IsEarlier : Connection → Connection → Type 0
IsEarlier c d = (c.trip < d.trip) ⊎ ((c.trip ≡ d.trip) × (c.dep < d.dep))

-- the connections of the first n runs, by run and position
pub record AreByRun (feed : Feed) (zone : Zone) (base : ℤ) (runs : List Run) (n : ℕ) (connections : List Connection) : Type 0 where
  pub each : (r p : ℕ) (c : Connection) → r < n → IsRunHop feed zone base runs r p c → Contains connections c
  pub only : (c : Connection) → Contains connections c → (r : ℕ) × (p : ℕ) × (r < n) × IsRunHop feed zone base runs r p c
  pub rising : (i j : ℕ) (d : Connection) → i < j → j < length connections → IsEarlier (slice_index_or connections i d) (slice_index_or connections j d)
  pub counted : length connections ≡ count_hops feed.trips.items (take n runs)
  pub inside : AreFirstInside feed zone base runs n

-- the first connection comes no later in the order by departure, arrival and run
pub record IsNotAfter (c d : Connection) : Type 0 where
  pub by_departure : c.dep ≤ d.dep
  pub by_arrival : c.dep ≡ d.dep → c.arr ≤ d.arr
  pub by_run : c.dep ≡ d.dep → c.arr ≡ d.arr → c.trip ≤ d.trip

abbrev pub AreSorted : List Connection → Type 0
AreSorted connections = (i j : ℕ) (d : Connection) → i < j → j < length connections
    → IsNotAfter (slice_index_or connections i d) (slice_index_or connections j d)

-- departure, arrival and run as the digits of one number
abbrev pub order_of : Connection → ℕ
order_of c = (c.dep * 2 ^ 32 + c.arr) * 2 ^ 32 + c.trip

-- the digits after the first are less than their base
abbrev pub HasDigits : Connection → Type 0
HasDigits c = (c.arr < 2 ^ 32) × (c.trip < 2 ^ 32)
