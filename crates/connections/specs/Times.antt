-- When the rows of a trip arrive and depart: their times are spread over the blank rows, and then lifted, so that each
-- arrival is at least a second after the departure before it. (Lifting is our own.)
use Rattle.std.specs.Prelude.{◌≡◌, ◌==◌, ◌&&◌, ◌||◌, ◌+◌, ◌<◌, not, max, ℕ, zero, suc, List, length, Bool, true, false, Option, Some, None, IsSome, slice_get}
use Rattle.std.specs.Prelude.{slice_index_or}
use Rattle.std.specs.Global.{Vec}
use Rattle.gtfs_rows.specs.declared.rows.StopTimeRow.{StopTimeRow}
use Rattle.gtfs_tables.specs.Joined.{makes_connections, rows_of}
use Rattle.gtfs_tables.specs.declared.tables.Trip.{Trip}
use Rattle.gtfs_tables.specs.Spread.{IsSpread, arrival_at}
use Rattle.gtfs_tables.specs.Times.{arrives_spread, departs_spread}
use Rattle.connections.specs.declared.times.RowTimes.{RowTimes}
use Rattle.connections.specs.declared.times.TripTimes.{TripTimes}

-- these are the spread times of a trip's rows; none if no row is blank
abbrev pub AreSpread : List StopTimeRow → Option (Vec (ℕ × ℕ)) → Type 0
AreSpread rows None = (k : ℕ) → k < length rows → IsSome (arrival_at rows k)
AreSpread rows (Some times) = IsSpread rows times.items

-- a row's arrival, or one second after the departure before it, whichever is later
abbrev pub lifted_arrival : List StopTimeRow → ℕ → ℕ → ℕ
lifted_arrival rows k left = max (arrives_spread rows k) (left + 1)

-- a row departs at its departure or at its lifted arrival, whichever is later; the first row's times stay
unfoldable pub departs : List StopTimeRow → ℕ → ℕ
departs rows zero = departs_spread rows 0
departs rows (suc k) = max (departs_spread rows (suc k)) (lifted_arrival rows (suc k) (departs rows k))

unfoldable pub arrives : List StopTimeRow → ℕ → ℕ
arrives rows zero = arrives_spread rows 0
arrives rows (suc k) = lifted_arrival rows (suc k) (departs rows k)

-- lifting changed the times of this row, or of one of the rows before it
abbrev pub is_moved : List StopTimeRow → ℕ → Bool
is_moved rows k = not ((arrives rows k == arrives_spread rows k) && (departs rows k == departs_spread rows k))

unfoldable pub is_moved_before : List StopTimeRow → ℕ → Bool
is_moved_before rows zero = false
is_moved_before rows (suc k) = is_moved_before rows k || is_moved rows k

-- lifting changed the trip
abbrev pub is_lifted : List StopTimeRow → Bool
is_lifted rows = is_moved_before rows (length rows)

abbrev pub row_times : List StopTimeRow → ℕ → RowTimes
row_times rows k = record { arrival = arrives rows k; departure = departs rows k }

-- the lifted times of one row, given the lifted departure before it, if there is one
abbrev pub lifted_by : Option ℕ → ℕ → ℕ → RowTimes
lifted_by None arrival departure = record { arrival = arrival; departure = departure }
lifted_by (Some left) arrival departure = record { arrival = max arrival (left + 1); departure = max departure (max arrival (left + 1)) }

-- these are the times of the first n rows
abbrev pub AreTimesBefore : List StopTimeRow → List RowTimes → ℕ → Type 0
AreTimesBefore rows times n = (k : ℕ) (d : RowTimes) → k < n → slice_index_or times k d ≡ row_times rows k

-- these are the times of a trip with these rows
pub record AreTimes (rows : List StopTimeRow) (times : TripTimes) : Type 0 where
  pub same_length : length times.rows.items ≡ length rows
  pub times_are : AreTimesBefore rows times.rows.items (length rows)
  pub lifted : times.lifted ≡ is_lifted rows

-- the times of a trip: nothing is stated about its rows unless it makes connections, and otherwise it isn't lifted
pub record AreTripTimes (stop_times : List StopTimeRow) (trip : Trip) (times : TripTimes) : Type 0 where
  pub made : makes_connections trip ≡ true → AreTimes (rows_of stop_times trip) times
  pub lifted : times.lifted ≡ (makes_connections trip && is_lifted (rows_of stop_times trip))

-- these are the times of each of the trips
pub record AreTimesOf (stop_times : List StopTimeRow) (trips : List Trip) (times : List TripTimes) : Type 0 where
  pub same_length : length times ≡ length trips
  pub each : (k : ℕ) (trip : Trip) (d : TripTimes) → slice_get trips k ≡ Some trip → AreTripTimes stop_times trip (slice_index_or times k d)
