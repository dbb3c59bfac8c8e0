-- The outcome for a feed, some days and a zone: runs and connections, or the first refusal.
use Rattle.std.specs.Prelude.{◌≡◌, ◌&&◌, ◌<◌, ◌≤◌, ◌⊎◌, ℕ, ℤ, List, length, Bool}
use Rattle.std.specs.List.{count_by}
use Rattle.gtfs_rows.specs.declared.fault.Table.TheVariants as tables
use Rattle.gtfs_rows.specs.declared.values.Day.{Day}
use Rattle.gtfs_tables.specs.Joined.{makes_connections, rows_of}
use Rattle.gtfs_tables.specs.declared.tables.Feed.{Feed}
use Rattle.gtfs_tables.specs.declared.tables.Trip.{Trip}
use Rattle.service_days.specs.Zones.{IsDayStart}
use Rattle.service_days.specs.declared.zone.Zone.{Zone}
use Rattle.timetable.specs.declared.limits.TheConstants.{MAX_CONNECTIONS, MAX_TRIPS}
use Rattle.timetable.specs.declared.network.Connection.{Connection}
use Rattle.connections.specs.Days.{HaveStarts, IsFirstUnstarted, days_from}
use Rattle.connections.specs.Faults.{day_fault, no_memory_for_days, no_memory_for_runs, run_fault, too_many_of}
use Rattle.connections.specs.Listed.{AreListed, AreRunsInside, IsFirstOutside}
use Rattle.connections.specs.Runs.{count_hops, runs_of_days}
use Rattle.connections.specs.Times.{is_lifted}
use Rattle.connections.specs.declared.fault.RunsFault.{RunsFault}
use Rattle.connections.specs.declared.report.Report.{Report}
use Rattle.connections.specs.declared.runs.Run.{Run}

-- these are the runs and the connections of a feed on this many days from the first one on
pub record IsListing (feed : Feed) (zone : Zone) (first : Day) (days : ℕ) (connections : List Connection) (runs : List Run) : Type 0 where
  pub started : HaveStarts zone (days_from first days)
  pub runs_are : runs ≡ runs_of_days feed (days_from first days)
  pub few_runs : length runs ≤ MAX_TRIPS
  pub counted : length connections ≡ count_hops feed.trips.items runs
  pub few : length connections ≤ MAX_CONNECTIONS
  pub inside : (base : ℤ) → IsDayStart zone first base → AreRunsInside feed zone base runs
  pub listed : (base : ℤ) → IsDayStart zone first base → AreListed feed zone base runs connections

-- the trip makes connections, and lifting changed it
abbrev pub is_lifted_trip : Feed → Trip → Bool
is_lifted_trip feed trip = makes_connections trip && is_lifted (rows_of feed.stop_times.items trip)

-- these are the counts of a feed with this many runs and connections
pub record IsReport (feed : Feed) (run_count connection_count : ℕ) (report : Report) : Type 0 where
  pub stops : report.stops ≡ length feed.stops.items
  pub runs : report.runs ≡ run_count
  pub connections : report.connections ≡ connection_count
  pub footpaths : report.footpaths ≡ 0
  pub lifted : report.lifted ≡ count_by (is_lifted_trip feed) feed.trips.items
  pub flex : report.flex ≡ count_by (λ trip. trip.flex) feed.trips.items
  pub frequencies : report.frequencies ≡ count_by (λ trip. trip.repeats) feed.trips.items
  pub skipped : report.skipped ≡ feed.skipped

-- memory ran out for the days; or, once each of them has a start, for the runs or their connections
abbrev pub RanOut : Zone → List Day → RunsFault → Type 0
RanOut zone days fault = (fault ≡ no_memory_for_days) ⊎ ((fault ≡ no_memory_for_runs) × HaveStarts zone days)

-- a day has no start
pub record IsDayRefused (zone : Zone) (days : List Day) (fault : RunsFault) : Type 0 where
  pub day : Day
  pub is : fault ≡ day_fault day
  pub first : IsFirstUnstarted zone days day

-- there are too many runs
pub record AreTooManyRuns (feed : Feed) (zone : Zone) (days : List Day) (fault : RunsFault) : Type 0 where
  pub is : fault ≡ too_many_of tables.Trips
  pub started : HaveStarts zone days
  pub many : MAX_TRIPS < length (runs_of_days feed days)

-- there are too many connections
pub record AreTooManyConnections (feed : Feed) (zone : Zone) (days : List Day) (fault : RunsFault) : Type 0 where
  pub is : fault ≡ too_many_of tables.StopTimes
  pub started : HaveStarts zone days
  pub few_runs : length (runs_of_days feed days) ≤ MAX_TRIPS
  pub many : MAX_CONNECTIONS < count_hops feed.trips.items (runs_of_days feed days)

-- a time of a run is out of range
pub record IsTimeRefused (feed : Feed) (zone : Zone) (first : Day) (days : List Day) (fault : RunsFault) : Type 0 where
  pub run : Run
  pub is : fault ≡ run_fault run
  pub started : HaveStarts zone days
  pub few_runs : length (runs_of_days feed days) ≤ MAX_TRIPS
  pub few : count_hops feed.trips.items (runs_of_days feed days) ≤ MAX_CONNECTIONS
  pub outside : (base : ℤ) × IsDayStart zone first base × IsFirstOutside feed zone base (runs_of_days feed days) run

-- the first refusal: days are judged first, then the number of runs, then that of connections, then the times of the runs
abbrev pub IsFirstRefusal : Feed → Zone → Day → ℕ → RunsFault → Type 0
IsFirstRefusal feed zone first days fault =
    IsDayRefused zone (days_from first days) fault ⊎ (AreTooManyRuns feed zone (days_from first days) fault
    ⊎ (AreTooManyConnections feed zone (days_from first days) fault ⊎ IsTimeRefused feed zone first (days_from first days) fault))
