-- The order of the rows of stop_times.txt.
use Rattle.std.specs.Prelude.{ℕ, zero, suc}
use Rattle.std.specs.Prelude.{◌==◌, ◌+◌, ◌-◌, List, [], ◌∷◌, count_by, nat_lt, Option, None, Bool, false, if◌then◌else◌, unwrap_or, IsPermutation, IsSortedBy}
use Rattle.std.specs.List.{slice_index_or, slice_range}
use Rattle.gtfs_rows.specs.declared.rows.StopTimeRow.{StopTimeRow}
use Rattle.gtfs_tables.specs.Names.{named_at}
use Rattle.gtfs_tables.specs.declared.order.RowOrder.{RowOrder}
use Rattle.gtfs_tables.specs.declared.order.RowOrder.TheVariants as orders
use Rattle.gtfs_tables.specs.declared.order.SortKey.{SortKey}

-- the sort key of a row: its trip, its stop_sequence and the number of its record
abbrev pub sort_key_of : List (Option ℕ) → ℕ → StopTimeRow → SortKey
sort_key_of trips number row = record { trip = unwrap_or (named_at trips row.trip) 0; sequence = row.sequence; number = number }

-- the sort keys of the rows, given the number of the first row's record
abbrev pub sort_keys_from : List (Option ℕ) → ℕ → List StopTimeRow → List SortKey
sort_keys_from trips number [] = []
sort_keys_from trips number (row ∷ rest) = sort_key_of trips number row ∷ sort_keys_from trips (number + 1) rest

-- sort keys are ordered by trip, then by stop_sequence, then by record
abbrev pub comes_before : SortKey → SortKey → Bool
comes_before a b =
    if a.trip == b.trip then (if a.sequence == b.sequence then nat_lt a.number b.number else nat_lt a.sequence b.sequence) else nat_lt a.trip b.trip

-- the sort keys are those of the rows, in order
pub record IsInOrder (trips : List (Option ℕ)) (rows : List StopTimeRow) (sort_keys : List SortKey) : Type 0 where
  pub same : IsPermutation (sort_keys_from trips 1 rows) sort_keys
  pub rising : IsSortedBy comes_before sort_keys

-- the sort keys of rows that already have the indices of their trips
abbrev pub filed_sort_keys : ℕ → List StopTimeRow → List SortKey
filed_sort_keys number [] = []
filed_sort_keys number (row ∷ rest) = record { trip = row.trip; sequence = row.sequence; number = number } ∷ filed_sort_keys (number + 1) rest

-- the sort keys that an order gives rows: as the rows are read, and once they are in that order with the indices of their trips
abbrev pub sort_keys_in : List (Option ℕ) → RowOrder → List StopTimeRow → List SortKey
sort_keys_in trips orders.Filed rows = sort_keys_from trips 1 rows
sort_keys_in trips (orders.ByKeys sort_keys) rows = sort_keys.items

abbrev pub sort_keys_by : RowOrder → List StopTimeRow → List SortKey
sort_keys_by orders.Filed rows = filed_sort_keys 1 rows
sort_keys_by (orders.ByKeys sort_keys) rows = sort_keys.items

-- where the rows of a trip begin: after those of the trips before it
abbrev pub first_row_of : List SortKey → ℕ → ℕ
first_row_of sort_keys t = count_by (λ sort_key. nat_lt sort_key.trip t) sort_keys

-- of a list in the order of the sort keys, the part that belongs to a trip
abbrev pub of_trip : {X : Type 0} → List SortKey → ℕ → List X → List X
of_trip sort_keys t xs = slice_range xs (first_row_of sort_keys t) (first_row_of sort_keys (t + 1))

-- a row without stop and times, for an index past the end
abbrev pub no_row : StopTimeRow
no_row = record { trip = 0; arrival = None; departure = None; stop = None; sequence = 0; board = false; alight = false }

-- the row of the record of a number
abbrev pub row_of : List StopTimeRow → ℕ → StopTimeRow
row_of rows number = slice_index_or rows (number - 1) no_row

-- n consecutive numbers
abbrev pub numbers_from : ℕ → ℕ → List ℕ
numbers_from first zero = []
numbers_from first (suc n) = first ∷ numbers_from (first + 1) n
