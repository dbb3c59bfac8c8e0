-- What can be wrong with the times of a trip, whose rows are in order.
use Rattle.std.specs.Prelude.{◌==◌, ◌||◌, ◌&&◌, ◌-◌, ℕ, zero, suc, List, length, map, nat_lt, nat_le, option_map}
use Rattle.std.specs.Prelude.{Option, Some, None, Bool, false, if◌then◌else◌, is_none, is_some, unwrap_or}
use Rattle.std.specs.List.{list_any, slice_index_or}
use Rattle.std.specs.Option.{option_or}
use Rattle.gtfs_rows.specs.declared.fault.FaultKind.{FaultKind}
use Rattle.gtfs_rows.specs.declared.fault.FaultKind.TheVariants as kinds
use Rattle.gtfs_rows.specs.declared.rows.StopTimeRow.{StopTimeRow}
use Rattle.gtfs_tables.specs.First.{first_index}
use Rattle.gtfs_tables.specs.Spread.{arrival_at, departure_at, part_of}

-- some row has no stop
abbrev pub is_flex : List StopTimeRow → Bool
is_flex rows = list_any (λ row. is_none row.stop) rows

abbrev pub sequence_at : List StopTimeRow → ℕ → ℕ
sequence_at rows k = slice_index_or (map (λ row. row.sequence) rows) k 0

-- the row has the stop_sequence of the row before it
abbrev pub is_twice : List StopTimeRow → ℕ → Bool
is_twice rows k = nat_lt 0 k && (sequence_at rows k == sequence_at rows (k - 1))

-- the first row, or else the last, if it has no time
abbrev pub end_without_time : List StopTimeRow → Option ℕ
end_without_time rows =
    if is_none (arrival_at rows 0) then Some 0 else (if is_none (arrival_at rows (length rows - 1)) then Some (length rows - 1) else None)

-- the last departure given before a row, 0 if there is none
abbrev pub departed_before : List StopTimeRow → ℕ → ℕ
departed_before rows zero = 0
departed_before rows (suc k) = unwrap_or (departure_at rows k) (departed_before rows k)

-- the arrival is before the last departure given in earlier rows, or after the row's own departure
abbrev pub is_back : ℕ → Option ℕ → Option ℕ → Bool
is_back left (Some arrives) (Some departs) = nat_lt arrives left || nat_lt departs arrives
is_back left (Some arrives) None = false
is_back left None departs = false

abbrev pub goes_back : List StopTimeRow → ℕ → Bool
goes_back rows k = is_back (departed_before rows k) (arrival_at rows k) (departure_at rows k)

-- the index of the last row before this one that has a time, and of the first at or after it that has one
abbrev pub given_before : List StopTimeRow → ℕ → ℕ
given_before rows zero = 0
given_before rows (suc k) = if is_some (arrival_at rows k) then k else given_before rows k

abbrev pub given_from : List StopTimeRow → ℕ → ℕ
given_from rows k = unwrap_or (first_index (λ j. nat_le k j && is_some (arrival_at rows j)) (length rows)) (length rows)

-- the time of a blank row k between the rows p and q, which have times
abbrev pub time_between : List StopTimeRow → ℕ → ℕ → ℕ → ℕ
time_between rows p q k = part_of (unwrap_or (departure_at rows p) 0) (unwrap_or (arrival_at rows q) 0) (q - p) (k - p)

-- when a row arrives and departs, after spreading
abbrev pub arrives_spread : List StopTimeRow → ℕ → ℕ
arrives_spread rows k = unwrap_or (arrival_at rows k) (time_between rows (given_before rows k) (given_from rows k) k)

abbrev pub departs_spread : List StopTimeRow → ℕ → ℕ
departs_spread rows k = unwrap_or (departure_at rows k) (time_between rows (given_before rows k) (given_from rows k) k)

-- the arrival isn't after the departure before it
abbrev pub has_no_duration : List StopTimeRow → ℕ → Bool
has_no_duration rows k = nat_lt 0 k && nat_le (arrives_spread rows k) (departs_spread rows (k - 1))

-- the same, given arrivals and departures
abbrev pub is_short : List (ℕ × ℕ) → ℕ → Bool
is_short times k = nat_lt 0 k && nat_le (slice_index_or times k (0, 0)).0 (slice_index_or times (k - 1) (0, 0)).1

-- an index, with what is wrong there
abbrev pub wrong_at : FaultKind → Option ℕ → Option (ℕ × FaultKind)
wrong_at kind index = option_map (λ k. (k, kind)) index

-- the first fault of the sequences and of the times as they are given
abbrev pub wrong_given : List StopTimeRow → Option (ℕ × FaultKind)
wrong_given rows =
    option_or (wrong_at kinds.SequenceTwice (first_index (is_twice rows) (length rows)))
    (option_or (wrong_at kinds.EndWithoutTime (end_without_time rows)) (wrong_at kinds.TimeGoesBack (first_index (goes_back rows) (length rows))))

-- the first fault of rows, if there are at least two and all have stops
abbrev pub wrong_times : Bool → List StopTimeRow → Option (ℕ × FaultKind)
wrong_times strict rows =
    option_or (wrong_given rows) (if strict then wrong_at kinds.HopWithoutDuration (first_index (has_no_duration rows) (length rows)) else None)

-- the first fault of a trip's rows; flex trips and trips with fewer than two rows aren't judged
abbrev pub first_wrong : Bool → List StopTimeRow → Option (ℕ × FaultKind)
first_wrong strict rows = if nat_lt (length rows) 2 || is_flex rows then None else wrong_times strict rows
