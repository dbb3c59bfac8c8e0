-- All faults in the times of trips.
use Rattle.std.specs.Prelude.{◌≡◌, ℕ, List, map, Option, Bool}
use Rattle.gtfs_rows.specs.declared.fault.TableFault.{TableFault}
use Rattle.gtfs_rows.specs.declared.rows.StopTimeRow.{StopTimeRow}
use Rattle.gtfs_tables.specs.Feeds.{trip_fault}
use Rattle.gtfs_tables.specs.First.{all_below}
use Rattle.gtfs_tables.specs.Order.{IsInOrder, row_of}
use Rattle.gtfs_tables.specs.Rows.{is_flex_id, linked_row}
use Rattle.gtfs_tables.specs.declared.names.StopIdTarget.{StopIdTarget}
use Rattle.gtfs_tables.specs.declared.order.SortKey.{SortKey}

-- the rows of stop_times.txt in the order of their sort keys, each id replaced by what it names
abbrev pub rows_in : List (Option ℕ) → List (Option StopIdTarget) → List StopTimeRow → List SortKey → List StopTimeRow
rows_in trips stops rows sort_keys =
    map (λ sort_key. linked_row trips stops (is_flex_id rows (row_of rows sort_key.number).trip) (row_of rows sort_key.number)) sort_keys

-- the first fault of each trip with a number below `count` that has one, in the order of the trips
pub record AreTimeFaults (trips : List (Option ℕ)) (stops : List (Option StopIdTarget)) (rows : List StopTimeRow) (count : ℕ) (strict : Bool)
    (faults : List TableFault) : Type 0 where
  pub sort_keys : List SortKey
  pub in_order : IsInOrder trips rows sort_keys
  pub faults_are : faults ≡ all_below (trip_fault strict sort_keys (rows_in trips stops rows sort_keys)) count
