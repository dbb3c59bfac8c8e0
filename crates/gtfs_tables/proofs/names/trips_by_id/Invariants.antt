use Rattle.std.proofs.Common.{◌≡◌, ℕ, List}
use Rattle.indexmap.specs.IndexMap.{hasher_of}
use Rattle.gtfs_tables.specs.First.{first_below}
use Rattle.gtfs_tables.specs.Names.{held_at, trip_with}
use Rattle.gtfs_tables.proofs.names.trips_by_id.Given as goal

abbrev pub invariant-loop-index : goal.invariant-loop-index
invariant-loop-index l = record {
  held : (id : List ℕ) → held_at l.indices id ≡ first_below (trip_with l.trips id) l.index;
  hash : hasher_of l.indices ≡ l.fn.hash;
}
