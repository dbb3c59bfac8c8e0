use Rattle.std.proofs.Common.{◌≡◌, ◌<◌, ◌≤◌, ℕ, Some, slice_get}
use Rattle.bags.specs.Bag.{points_of}
use Rattle.bags.specs.declared.point.Point.{Point}
use Rattle.scan_state.proofs.bound.late_until.Given as goal

abbrev pub invariant-loop-index : goal.invariant-loop-index
invariant-loop-index g l = (k : ℕ) (p : Point g.row.C-V.Denot) → l.from ≤ k → k < l.index → slice_get (points_of l.found) k ≡ Some p → l.time ≤ p.departure
