use Rattle.std.proofs.Common.{◌≡◌}
use Rattle.bags.specs.Bag.{criterion_of, points_of}
use Rattle.station_answers.specs.Merging.{MergesFirst}
use Rattle.station_answers.proofs.merging.merge_points.Given as goal

abbrev pub invariant-loop-index : goal.invariant-loop-index
invariant-loop-index g l = record {
  same : criterion_of l.best ≡ criterion_of l.fn.best;
  merges : MergesFirst (g.C.Criterion.rules (criterion_of l.fn.best)) l.points l.number l.index (points_of l.fn.best) l.fn.origins.items
      (points_of l.best) l.origins.items;
}
