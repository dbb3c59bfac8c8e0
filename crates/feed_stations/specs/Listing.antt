-- The line of a station, or of a stop without one.
use Rattle.std.specs.Prelude.{ℕ, ◌==◌, ◌&&◌, ◌||◌, ◌++◌, List, Bool, false, Option, Some, None, if◌then◌else◌}
use Rattle.std.specs.Prelude.{chars, codes, encode_utf8, string_bytes}
use Rattle.std.specs.List.{flat_map, slice_get}
use Rattle.gtfs_rows.specs.Tables.{is_blank, is_stop}
use Rattle.gtfs_rows.specs.declared.rows.Location.{Location}
use Rattle.gtfs_rows.specs.declared.rows.StopRow.{StopRow}
use Rattle.feed_stations.specs.Finding.{id_of, name_of, platform_of}
use Rattle.feed_stations.specs.Homes.{is_station, is_station_at}
use Rattle.feed_stations.specs.declared.labels.StopLabel.{StopLabel}

-- the row is that of a station, or of a stop without one
abbrev pub has_line : StopRow → Bool
has_line row = is_station row || (is_stop row && is_blank (string_bytes row.parent))

abbrev pub is_listed_row : Option StopRow → Bool
is_listed_row None = false
is_listed_row (Some row) = has_line row

-- what a row is: a station or a stop
abbrev pub kind_at : Location → List ℕ
kind_at location = if is_station_at location then codes "station" else codes "stop"

abbrev pub kind_of : Option StopRow → List ℕ
kind_of None = codes "stop"
kind_of (Some row) = kind_at row.location

-- a text in which each tab (9) and each character that ends a line (10, 13) is a space
abbrev pub flat_letter : ℕ → List ℕ
flat_letter letter = if (letter == 9) || (letter == 10) || (letter == 13) then codes " " else encode_utf8 letter

abbrev pub flat_text : List ℕ → List ℕ
flat_text text = flat_map flat_letter (chars text)

unfoldable pub cell_text : List ℕ → List ℕ
cell_text text = codes "\t" ++ flat_text text

-- the stop_id and the platform_code of the row at an index
unfoldable pub stop_text : List StopRow → List StopLabel → ℕ → List ℕ
stop_text rows labels k = cell_text (id_of (slice_get rows k)) ++ cell_text (platform_of (slice_get labels k))

-- the line of the row at an index, with its stops
unfoldable pub row_line : List StopRow → List StopLabel → ℕ → List ℕ → List ℕ
row_line rows labels k stops =
    kind_of (slice_get rows k) ++ cell_text (id_of (slice_get rows k)) ++ cell_text (name_of (slice_get labels k))
    ++ flat_map (stop_text rows labels) stops ++ codes "\n"
