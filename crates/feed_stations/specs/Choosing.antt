-- The rows that are listed if a text is asked for.
use Rattle.std.specs.Prelude.{◌≡◌, ◌&&◌, ◌||◌, ◌++◌, ℕ, List, [], length, filter, map, codes, Bool, false, Option, Some, None}
use Rattle.std.specs.Global.{Vec}
use Rattle.std.specs.List.{flat_map, list_any, range_with_len, slice_get, slice_index_or}
use Rattle.gtfs_rows.specs.declared.rows.StopRow.{StopRow}
use Rattle.feed_stations.specs.Finding.{AreMarks, IsFoundAt}
use Rattle.feed_stations.specs.Grouping.{AreGroups}
use Rattle.text_pieces.specs.Json.{with_commas}
use Rattle.feed_stations.specs.Json.{row_json}
use Rattle.feed_stations.specs.Listing.{is_listed_row, row_line}
use Rattle.feed_stations.specs.declared.stop_table.StopTable.{StopTable}

-- the stops of a group, if there is that group
abbrev pub items_of : Option (Vec ℕ) → List ℕ
items_of None = []
items_of (Some group) = group.items

abbrev pub stops_of : List (Vec ℕ) → ℕ → List ℕ
stops_of groups k = items_of (slice_get groups k)

abbrev pub is_marked_at : List Bool → ℕ → Bool
is_marked_at found k = slice_index_or found k false

-- the text is found at a row, or at one of its stops
abbrev pub is_shown_at : List Bool → ℕ → List ℕ → Bool
is_shown_at found k stops = is_marked_at found k || list_any (is_marked_at found) stops

abbrev pub is_chosen : List StopRow → List (Vec ℕ) → List Bool → ℕ → Bool
is_chosen rows groups found k = is_listed_row (slice_get rows k) && is_shown_at found k (stops_of groups k)

-- the rows that are listed, of those below n
abbrev pub chosen_below : List StopRow → List (Vec ℕ) → List Bool → ℕ → List ℕ
chosen_below rows groups found n = filter (is_chosen rows groups found) (range_with_len 0 n)

-- the groups have the stops of each row; and of the rows that stand for a station or a stop without one, those are chosen at which, or at a stop of which,
-- the text is found
pub record IsChoice (stop_table : StopTable) (text : List ℕ) (groups : List (Vec ℕ)) (chosen : List ℕ) : Type 0 where
  pub found : List Bool
  pub marks : AreMarks (IsFoundAt stop_table.rows.items stop_table.labels.items text) (length stop_table.rows.items) found
  pub grouped : AreGroups stop_table.homes.items (length stop_table.rows.items) groups
  pub chosen_is : chosen ≡ chosen_below stop_table.rows.items groups found (length stop_table.rows.items)

-- the line and the JSON of a chosen row
abbrev pub line_at : StopTable → List (Vec ℕ) → ℕ → List ℕ
line_at stop_table groups k = row_line stop_table.rows.items stop_table.labels.items k (stops_of groups k)

abbrev pub json_at : StopTable → List (Vec ℕ) → ℕ → List ℕ
json_at stop_table groups k = row_json stop_table.rows.items stop_table.labels.items k (stops_of groups k)

-- the text is that of the chosen rows, as lines
abbrev pub AreLines : StopTable → List ℕ → List ℕ → Type 0
AreLines stop_table text lines =
    (groups : List (Vec ℕ)) × (chosen : List ℕ) × IsChoice stop_table text groups chosen × (lines ≡ flat_map (line_at stop_table groups) chosen)

-- the same as JSON
abbrev pub IsJson : StopTable → List ℕ → List ℕ → Type 0
IsJson stop_table text out =
    (groups : List (Vec ℕ)) × (chosen : List ℕ) × IsChoice stop_table text groups chosen
    × (out ≡ codes "[" ++ with_commas (map (json_at stop_table groups) chosen) ++ codes "]\n")
