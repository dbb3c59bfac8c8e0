use Rattle.bags.specs.Bag.{points_of}
use Rattle.scan_state.specs.Bound.{TakesPoints}
use Rattle.scan_state.proofs.bound.take_points.Given as goal

abbrev pub invariant-loop-index : goal.invariant-loop-index
invariant-loop-index g l = TakesPoints (g.C.Criterion.rules l.criterion) (points_of l.found) l.fn.indices.start l.index l.fn.values.items l.values.items
