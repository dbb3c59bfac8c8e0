use Rattle.std.proofs.Common.{◌≡◌, None, take, map}
use Rattle.gtfs_rows.specs.declared.fault.Table.TheVariants.{Stops}
use Rattle.gtfs_tables.specs.First.{first_below, row_fault}
use Rattle.gtfs_tables.specs.Names.{held_at}
use Rattle.gtfs_tables.specs.Rows.{parent_fault, station_of}
use Rattle.gtfs_tables.proofs.links.stations.Given as goal

abbrev pub invariant-loop-index : goal.invariant-loop-index
invariant-loop-index l = record {
  fine : first_below (row_fault Stops (parent_fault (held_at l.names)) l.stops) l.index ≡ None;
  found : l.found.items ≡ map (station_of (held_at l.names)) (take l.index l.stops);
}
