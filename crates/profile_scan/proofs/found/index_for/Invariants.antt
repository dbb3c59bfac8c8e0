use Rattle.std.proofs.Common.{◌<◌, ◌≤◌, ℕ, length, slice_index_or}
use Rattle.scan_state.specs.Points.{Before}
use Rattle.profile_scan.proofs.found.index_for.Given as goal

abbrev pub invariant-loop-index : goal.invariant-loop-index
invariant-loop-index g l = record {
  within : l.index ≤ length l.points;
  after : (k : ℕ) (d : _) → l.index ≤ k → k < length l.points → Before (g.C.Criterion.rules l.criterion) l.point (slice_index_or l.points k d);
}

abbrev pub decreases-loop-index : goal.decreases-loop-index
decreases-loop-index g l = l.index
