use Rattle.std.proofs.Common.{◌≡◌, None}
use Rattle.gtfs_tables.specs.First.{first_below, index_if}
use Rattle.gtfs_tables.specs.Times.{is_short}
use Rattle.gtfs_tables.proofs.times.no_duration.Given as goal

abbrev pub invariant-loop-at : goal.invariant-loop-at
invariant-loop-at l = first_below (index_if (is_short l.times)) l.at ≡ None
