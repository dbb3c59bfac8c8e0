use Rattle.bags.specs.Bag.{points_of}
use Rattle.profile_scan.proofs.OrderLemmas.{AreListed}
use Rattle.profile_scan.proofs.found.in_order.Given as goal

abbrev pub invariant-loop-left : goal.invariant-loop-left
invariant-loop-left g l = AreListed (g.C.Criterion.rules l.criterion) (points_of l.bag) l.left l.points.items

abbrev pub decreases-loop-left : goal.decreases-loop-left
decreases-loop-left g l = l.left
