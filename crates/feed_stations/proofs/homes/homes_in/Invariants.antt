use Rattle.std.proofs.Common.{◌≡◌, None}
use Rattle.gtfs_rows.specs.declared.fault.Table.TheVariants.{Stops}
use Rattle.gtfs_tables.specs.First.{first_below, row_fault}
use Rattle.feed_stations.specs.Homes.{AreHomesBelow, orphan_fault, station_named}
use Rattle.feed_stations.proofs.homes.homes_in.Given as goal

abbrev pub invariant-loop-row_index : goal.invariant-loop-row_index
invariant-loop-row_index l = record {
  fine : first_below (row_fault Stops (orphan_fault (station_named l.rows)) l.rows) l.row_index ≡ None;
  homes : AreHomesBelow (station_named l.rows) l.rows l.row_index l.homes.items;
}
