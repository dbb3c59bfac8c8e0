-- Stations, and stops without one, as JSON.
use Rattle.std.specs.Prelude.{ℕ, List, ◌++◌, codes, map}
use Rattle.std.specs.List.{slice_get}
use Rattle.text_pieces.specs.Json.{quoted_text, with_commas}
use Rattle.gtfs_rows.specs.declared.rows.StopRow.{StopRow}
use Rattle.feed_stations.specs.Finding.{id_of, name_of, platform_of}
use Rattle.feed_stations.specs.Listing.{kind_of}
use Rattle.feed_stations.specs.declared.labels.StopLabel.{StopLabel}

-- the stop_id and the platform_code of the row at an index
unfoldable pub stop_json : List StopRow → List StopLabel → ℕ → List ℕ
stop_json rows labels k =
    quoted_text (codes "{\"id\":") (id_of (slice_get rows k)) ++ quoted_text (codes ",\"platform\":") (platform_of (slice_get labels k))
    ++ codes "}"

unfoldable pub stops_json : List StopRow → List StopLabel → List ℕ → List ℕ
stops_json rows labels stops = codes ",\"stops\":[" ++ with_commas (map (stop_json rows labels) stops) ++ codes "]"

-- the row at an index, with its stops
unfoldable pub row_json : List StopRow → List StopLabel → ℕ → List ℕ → List ℕ
row_json rows labels k stops =
    quoted_text (codes "{\"id\":") (id_of (slice_get rows k)) ++ quoted_text (codes ",\"name\":") (name_of (slice_get labels k))
    ++ stops_json rows labels stops ++ quoted_text (codes ",\"type\":") (kind_of (slice_get rows k)) ++ codes "}"
