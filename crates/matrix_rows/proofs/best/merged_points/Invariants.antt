use Rattle.std.proofs.Common.{◌≡◌, take}
use Rattle.bags.specs.Bag.{criterion_of, points_of}
use Rattle.profile_scan.specs.Everywhere.{listed_to_any}
use Rattle.matrix_rows.proofs.Merges.{AreMerged}
use Rattle.matrix_rows.proofs.best.merged_points.Given as goal

-- the points of the stops so far were put into the bag
abbrev pub invariant-loop-stop : goal.invariant-loop-stop
invariant-loop-stop g l = record {
  same : criterion_of l.best ≡ l.criterion;
  merged : AreMerged (g.C.Criterion.rules l.criterion) (listed_to_any l.profiles) (take l.stop-index l.stops) (points_of l.best);
}
