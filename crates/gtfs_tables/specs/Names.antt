-- What an id names: an id stands for the first row that has it.
use Rattle.std.specs.Prelude.{ℕ, List, length, take, count_by, option_and_then, Option, Some, None, if◌then◌else◌}
use Rattle.std.specs.List.{slice_get, slice_index_or}
use Rattle.std.specs.Str.{bytes_eq}
use Rattle.std.specs.String.{string_bytes}
use Rattle.std.specs.Borrow.{Bor}
use Rattle.indexmap.specs.IndexMap.{IndexMap, get_by}
use Rattle.gtfs_rows.specs.Tables.{is_stop}
use Rattle.gtfs_rows.specs.declared.rows.Location.{Location}
use Rattle.gtfs_rows.specs.declared.rows.Location.TheVariants as locations
use Rattle.gtfs_rows.specs.declared.rows.StopRow.{StopRow}
use Rattle.gtfs_rows.specs.declared.rows.TripRow.{TripRow}
use Rattle.gtfs_tables.specs.First.{first_below}
use Rattle.gtfs_tables.specs.declared.names.StopIdTarget.{StopIdTarget}
use Rattle.gtfs_tables.specs.declared.names.StopIdTarget.TheVariants as names

-- what a row of stops.txt stands for: a stop, by how many stops come before it, or a station, by its index
abbrev pub named_as : Location → ℕ → ℕ → StopIdTarget
named_as locations.Stop number index = names.Stop number
named_as locations.Station number index = names.Station index
named_as locations.Entrance number index = names.Elsewhere
named_as locations.Node number index = names.Elsewhere
named_as locations.BoardingArea number index = names.Elsewhere

-- what the row at an index stands for, if it has the id
abbrev pub stop_with : List StopRow → List ℕ → ℕ → Option StopIdTarget
stop_with stops id k =
    option_and_then (λ row. if bytes_eq id (string_bytes row.id) then Some
    (named_as row.location (count_by is_stop (take k stops)) k) else None) (slice_get stops k)

-- what an id of stops.txt names
abbrev pub stop_named : List StopRow → List ℕ → Option StopIdTarget
stop_named stops id = first_below (stop_with stops id) (length stops)

-- the index, if the row there has the id
abbrev pub trip_with : List TripRow → List ℕ → ℕ → Option ℕ
trip_with trips id k = option_and_then (λ row. if bytes_eq id (string_bytes row.id) then Some k else None) (slice_get trips k)

-- the index of the row with an id of trips.txt
abbrev pub trip_named : List TripRow → List ℕ → Option ℕ
trip_named trips id = first_below (trip_with trips id) (length trips)

-- the value that a map has for an id
abbrev pub held_at : {X S : Type 0} → IndexMap (Bor (List ℕ)) X S → List ℕ → Option X
held_at names id = get_by (λ k. bytes_eq id k.now) names

-- what the id of an index names, if anything
abbrev pub named_at : {X : Type 0} → List (Option X) → ℕ → Option X
named_at named k = slice_index_or named k None
