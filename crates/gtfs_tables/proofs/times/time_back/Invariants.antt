use Rattle.std.proofs.Common.{◌≡◌, None}
use Rattle.gtfs_tables.specs.First.{first_below, index_if}
use Rattle.gtfs_tables.specs.Times.{departed_before, goes_back}
use Rattle.gtfs_tables.proofs.times.time_back.Given as goal

abbrev pub invariant-loop-at : goal.invariant-loop-at
invariant-loop-at l = record {
  left : l.left ≡ departed_before l.rows l.at;
  none : first_below (index_if (goes_back l.rows)) l.at ≡ None;
}
