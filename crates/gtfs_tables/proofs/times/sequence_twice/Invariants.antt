use Rattle.std.proofs.Common.{◌≡◌, None}
use Rattle.gtfs_tables.specs.First.{first_below, index_if}
use Rattle.gtfs_tables.specs.Times.{is_twice}
use Rattle.gtfs_tables.proofs.times.sequence_twice.Given as goal

abbrev pub invariant-loop-at : goal.invariant-loop-at
invariant-loop-at l = first_below (index_if (is_twice l.rows)) l.at ≡ None
