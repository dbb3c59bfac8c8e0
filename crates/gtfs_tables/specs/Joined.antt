-- What holds for each feed: where the rows of its trips are, and what its transfers name.
use Rattle.std.specs.Prelude.{◌≡◌, ◌-◌, ◌<◌, ◌≤◌, ◌&&◌, not, nat_le, ℕ, List, length, Bool, true, IsSome, IsSomeAnd, All}
use Rattle.std.specs.List.{slice_range}
use Rattle.gtfs_rows.specs.declared.rows.StopTimeRow.{StopTimeRow}
use Rattle.gtfs_tables.specs.Spread.{arrival_at}
use Rattle.gtfs_tables.specs.declared.tables.TransferEnd.{TransferEnd}
use Rattle.gtfs_tables.specs.declared.tables.TransferEnd.TheVariants as ends
use Rattle.gtfs_tables.specs.declared.tables.Transfer.{Transfer}
use Rattle.gtfs_tables.specs.declared.tables.Trip.{Trip}

-- the rows of a trip among the stop times
abbrev pub rows_of : List StopTimeRow → Trip → List StopTimeRow
rows_of stop_times trip = slice_range stop_times trip.first trip.end

-- a trip makes connections: it isn't a flex trip, and has at least two rows
abbrev pub makes_connections : Trip → Bool
makes_connections trip = not trip.flex && nat_le 2 (trip.end - trip.first)

-- the first and the last row have a time
abbrev pub HasTimedEnds : List StopTimeRow → Type 0
HasTimedEnds rows = IsSome (arrival_at rows 0) × IsSome (arrival_at rows (length rows - 1))

-- each row has a stop, with a number below this
abbrev pub HasStopsBelow : ℕ → List StopTimeRow → Type 0
HasStopsBelow stops rows = All (λ row. IsSomeAnd row.stop (λ stop. stop < stops)) rows

-- a trip's rows are among the stop times; if it makes connections, the first and the last have a time and all have stops
pub record IsRunnableTrip (stops : ℕ) (stop_times : List StopTimeRow) (trip : Trip) : Type 0 where
  pub rising : trip.first ≤ trip.end
  pub within : trip.end ≤ length stop_times
  pub timed : makes_connections trip ≡ true → HasTimedEnds (rows_of stop_times trip)
  pub stops_below : makes_connections trip ≡ true → HasStopsBelow stops (rows_of stop_times trip)

-- this holds for each trip
abbrev pub AreRunnable : ℕ → List StopTimeRow → List Trip → Type 0
AreRunnable stops stop_times trips = All (IsRunnableTrip stops stop_times) trips

-- if the place is a stop, its number is below this
abbrev pub NamesBelow : ℕ → TransferEnd → Type 0
NamesBelow stops (ends.Stop stop) = stop < stops
NamesBelow stops (ends.Station station) = Unit {0}

-- each stop that a transfer names has a number below this
abbrev pub NameStopsBelow : ℕ → List Transfer → Type 0
NameStopsBelow stops transfers = All (λ row. NamesBelow stops row.from × NamesBelow stops row.to) transfers
