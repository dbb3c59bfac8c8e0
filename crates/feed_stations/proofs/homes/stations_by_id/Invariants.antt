use Rattle.std.proofs.Common.{◌≡◌, ℕ, List}
use Rattle.indexmap.specs.IndexMap.{hasher_of}
use Rattle.gtfs_tables.specs.First.{first_below}
use Rattle.gtfs_tables.specs.Names.{held_at}
use Rattle.feed_stations.specs.Homes.{station_with}
use Rattle.feed_stations.proofs.homes.stations_by_id.Given as goal

abbrev pub invariant-loop-row_index : goal.invariant-loop-row_index
invariant-loop-row_index l = record {
  held : (id : List ℕ) → held_at l.stations id ≡ first_below (station_with l.rows id) l.row_index;
  hash : hasher_of l.stations ≡ l.fn.hash;
}
