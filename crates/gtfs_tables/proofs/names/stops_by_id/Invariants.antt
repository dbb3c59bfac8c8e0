use Rattle.std.proofs.Common.{◌≡◌, ℕ, List, take}
use Rattle.std.specs.Prelude.{count_by}
use Rattle.indexmap.specs.IndexMap.{hasher_of}
use Rattle.gtfs_rows.specs.Tables.{is_stop}
use Rattle.gtfs_tables.specs.First.{first_below}
use Rattle.gtfs_tables.specs.Names.{held_at, stop_with}
use Rattle.gtfs_tables.proofs.names.stops_by_id.Given as goal

abbrev pub invariant-loop-index : goal.invariant-loop-index
invariant-loop-index l = record {
  number : l.number ≡ count_by is_stop (take l.index l.stops);
  held : (id : List ℕ) → held_at l.names id ≡ first_below (stop_with l.stops id) l.index;
  hash : hasher_of l.names ≡ l.fn.hash;
}
