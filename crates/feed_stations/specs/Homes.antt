-- The row by which each stop is listed.
use Rattle.std.specs.Prelude.{◌≡◌, ◌<◌, ◌&&◌, ℕ, List, length, Bool, true, false, if◌then◌else◌, string_bytes}
use Rattle.std.specs.Prelude.{Option, Some, None, option_and_then}
use Rattle.std.specs.List.{slice_get, slice_index_or}
use Rattle.std.specs.Str.{bytes_eq}
use Rattle.gtfs_rows.specs.Faults.{fault_unless}
use Rattle.gtfs_rows.specs.Tables.{is_blank, is_stop}
use Rattle.gtfs_rows.specs.declared.fault.FaultKind.{FaultKind}
use Rattle.gtfs_rows.specs.declared.fault.FaultKind.TheVariants.{UnknownId}
use Rattle.gtfs_rows.specs.declared.rows.Location.{Location}
use Rattle.gtfs_rows.specs.declared.rows.Location.TheVariants as locations
use Rattle.gtfs_rows.specs.declared.rows.StopRow.{StopRow}
use Rattle.gtfs_tables.specs.First.{first_below}
use Rattle.gtfs_tables.specs.Rows.{has_parent}

abbrev pub is_station_at : Location → Bool
is_station_at locations.Station = true
is_station_at locations.Stop = false
is_station_at locations.Entrance = false
is_station_at locations.Node = false
is_station_at locations.BoardingArea = false

-- the row stands for a station
abbrev pub is_station : StopRow → Bool
is_station row = is_station_at row.location

-- the index, if the row there is that of a station with the id
abbrev pub station_with : List StopRow → List ℕ → ℕ → Option ℕ
station_with rows id k =
    option_and_then (λ row. if is_station row && bytes_eq id (string_bytes row.id) then Some k else None) (slice_get rows k)

-- the index of the first row of a station with the id
abbrev pub station_named : List StopRow → List ℕ → Option ℕ
station_named rows id = first_below (station_with rows id) (length rows)

-- `named` gives the index of the station that an id names.
-- The index of the row by which the row at an index is listed: that of its station, or its own for a stop without one
abbrev pub home_of : (List ℕ → Option ℕ) → ℕ → StopRow → Option ℕ
home_of named k row = if is_stop row then (if is_blank (string_bytes row.parent) then Some k else named (string_bytes row.parent)) else None

abbrev pub home_at : (List ℕ → Option ℕ) → List StopRow → ℕ → Option ℕ
home_at named rows k = option_and_then (home_of named k) (slice_get rows k)

-- the fault of a stop that names a parent that isn't a station
abbrev pub orphan_fault : (List ℕ → Option ℕ) → StopRow → Option FaultKind
orphan_fault named row = if has_parent row then fault_unless (named (string_bytes row.parent)) UnknownId else None

-- the homes of the rows below n
abbrev pub AreHomesBelow : (List ℕ → Option ℕ) → List StopRow → ℕ → List (Option ℕ) → Type 0
AreHomesBelow named rows n homes = (length homes ≡ n) × ((k : ℕ) → k < n → slice_index_or homes k None ≡ home_at named rows k)

-- the homes of all rows
abbrev pub AreHomes : List StopRow → List (Option ℕ) → Type 0
AreHomes rows homes = AreHomesBelow (station_named rows) rows (length rows) homes
