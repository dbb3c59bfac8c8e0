-- The starts of trips, listed once and kept.
use Rattle.std.specs.Prelude.{◌≡◌, ◌<◌, ℕ, List, [], length, slice_index_or}
use Rattle.gtfs_tables.specs.declared.tables.Frequency.{Frequency}
use Rattle.connections.specs.Repeats.{rows_for, starts_of}
use Rattle.connections.specs.declared.trip_starts.TripStarts.{TripStarts}
use Rattle.connections.specs.declared.trip_starts.TripStarts.TheVariants as starts

-- these are the starts of a trip with these rows, listed or not
abbrev pub AreStartsOf : List Frequency → TripStarts → Type 0
AreStartsOf rows (starts.Rows given) = given.items ≡ rows
AreStartsOf rows (starts.Times times) = times.items ≡ starts_of rows

-- the starts of each of n trips, by its rows among these
pub record HoldStarts (rows : List Frequency) (n : ℕ) (trips : List TripStarts) : Type 0 where
  pub same_length : length trips ≡ n
  pub each : (t : ℕ) (d : TripStarts) → t < n → AreStartsOf (rows_for rows t) (slice_index_or trips t d)

-- the starts, or none if they aren't listed yet
abbrev pub listed_times : TripStarts → List ℕ
listed_times (starts.Rows given) = []
listed_times (starts.Times times) = times.items

-- the starts of a trip are still those of its rows
abbrev pub IsKept : TripStarts → TripStarts → Type 0
IsKept old new = (rows : List Frequency) → AreStartsOf rows old → AreStartsOf rows new

-- this holds for each trip
pub record AreKept (old new : List TripStarts) : Type 0 where
  pub same_length : length new ≡ length old
  pub each : (t : ℕ) (d : TripStarts) → t < length old → IsKept (slice_index_or old t d) (slice_index_or new t d)
