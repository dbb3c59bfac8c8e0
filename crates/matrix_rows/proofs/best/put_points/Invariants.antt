use Rattle.std.proofs.Common.{◌≡◌, take}
use Rattle.bags.specs.Bag.{criterion_of, points_of}
use Rattle.matrix_rows.specs.Merging.{TakesIn}
use Rattle.matrix_rows.proofs.best.put_points.Given as goal

abbrev pub invariant-loop-point : goal.invariant-loop-point
invariant-loop-point g l = record {
  same : criterion_of l.best ≡ criterion_of l.fn.best;
  takes : TakesIn (g.C.Criterion.rules (criterion_of l.fn.best)) (take l.point-index l.points) (points_of l.fn.best) (points_of l.best);
}
