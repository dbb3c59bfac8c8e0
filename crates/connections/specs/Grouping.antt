-- The rows of frequencies.txt by trip, before any starts are listed.
use Rattle.std.specs.Prelude.{◌≡◌, ◌<◌, ◌==◌, ◌++◌, ℕ, List, [], ◌∷◌, length, slice_index_or, if◌then◌else◌}
use Rattle.gtfs_tables.specs.declared.tables.Frequency.{Frequency}
use Rattle.connections.specs.Repeats.{rows_for}
use Rattle.connections.specs.declared.trip_starts.TripStarts.{TripStarts}
use Rattle.connections.specs.declared.trip_starts.TripStarts.TheVariants as starts

-- no starts are listed yet, and these are the rows
abbrev pub HasRows : List Frequency → TripStarts → Type 0
HasRows rows (starts.Rows given) = given.items ≡ rows
HasRows rows (starts.Times times) = ⊥

-- each of n trips has its rows among these
pub record AreGrouped (rows : List Frequency) (n : ℕ) (groups : List TripStarts) : Type 0 where
  pub same_length : length groups ≡ n
  pub each : (t : ℕ) (d : TripStarts) → t < n → HasRows (rows_for rows t) (slice_index_or groups t d)

-- a row was added to those of its trip, if there is such a trip
pub record AddsRow (old : List TripStarts) (row : Frequency) (new : List TripStarts) : Type 0 where
  pub same_length : length new ≡ length old
  pub each : (t : ℕ) (d : TripStarts) (rows : List Frequency) → t < length old → HasRows rows (slice_index_or old t d)
      → HasRows (rows ++ (if row.trip == t then row ∷ [] else [])) (slice_index_or new t d)
