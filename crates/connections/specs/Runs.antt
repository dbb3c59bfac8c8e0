-- The runs of a feed on some days.
use Rattle.std.specs.Prelude.{◌≡◌, ◌&&◌, ◌+◌, ◌-◌, ℕ, List, [], ◌∷◌, ◌++◌, Bool, true, None, Some, if◌then◌else◌}
use Rattle.std.specs.List.{flat_map, sum_by, slice_get}
use Rattle.std.specs.Option.{option_map_or}
use Rattle.std.specs.String.{string_bytes}
use Rattle.gtfs_rows.specs.declared.values.Day.{Day}
use Rattle.gtfs_tables.specs.Joined.{makes_connections}
use Rattle.gtfs_tables.specs.declared.tables.Feed.{Feed}
use Rattle.gtfs_tables.specs.declared.tables.Frequency.{Frequency}
use Rattle.gtfs_tables.specs.declared.tables.Trip.{Trip}
use Rattle.service_days.specs.Services.{is_active}
use Rattle.connections.specs.Repeats.{rows_for, starts_of}
use Rattle.connections.specs.declared.runs.Run.{Run}

-- a trip runs on a day: it makes connections, and its service is active
abbrev pub runs_on : Feed → Day → Trip → Bool
runs_on feed day trip = makes_connections trip && is_active feed.calendar.items feed.calendar_dates.items (string_bytes trip.service) day

-- the run of a trip at the times of its stop times
abbrev pub run_as_it_stands : Day → ℕ → Run
run_as_it_stands day t = record { day = day; trip = t; repeat = 0; start = None }

-- the runs of a trip with these starts, numbered from r
unfoldable pub repeats_from : Day → ℕ → ℕ → List ℕ → List Run
repeats_from day t r [] = []
repeats_from day t r (s ∷ starts) = record { day = day; trip = t; repeat = r; start = Some s } ∷ repeats_from day t (r + 1) starts

-- the runs of a trip on a day: one for each start if it repeats, else one at the times of its stop times
abbrev pub runs_of_trip : List Frequency → Day → ℕ → Trip → List Run
runs_of_trip rows day t trip = if trip.repeats then repeats_from day t 0 (starts_of rows) else run_as_it_stands day t ∷ []

-- the runs on a day of the trip of an index; none if it doesn't run on that day
abbrev pub runs_at : Feed → Day → ℕ → Trip → List Run
runs_at feed day t trip = if runs_on feed day trip then runs_of_trip (rows_for feed.frequencies.items t) day t trip else []

-- the runs on a day of the trips from an index on
abbrev pub runs_from : Feed → Day → ℕ → List Trip → List Run
runs_from feed day t [] = []
runs_from feed day t (trip ∷ trips) = runs_at feed day t trip ++ runs_from feed day (t + 1) trips

-- the runs on the days, by day, then by the order of the trips, then by repeat
abbrev pub runs_of_days : Feed → List Day → List Run
runs_of_days feed days = flat_map (λ day. runs_from feed day 0 feed.trips.items) days

-- the run is that of a trip that makes connections
pub record IsTripRun (trips : List Trip) (run : Run) : Type 0 where
  pub trip : Trip
  pub is_trip : slice_get trips run.trip ≡ Some trip
  pub makes : makes_connections trip ≡ true

-- how many connections a run makes: one fewer than it has rows
abbrev pub hops_of : Trip → ℕ
hops_of trip = trip.end - trip.first - 1

abbrev pub run_hops : List Trip → Run → ℕ
run_hops trips run = option_map_or hops_of (slice_get trips run.trip) 0

abbrev pub count_hops : List Trip → List Run → ℕ
count_hops trips runs = sum_by (run_hops trips) runs
