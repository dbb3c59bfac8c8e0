use Rattle.std.proofs.Common.{◌<◌, ◌≤◌, ℕ, slice_index_or}
use Rattle.bags.proofs.search.count_late.Given as goal

abbrev pub invariant-loop-count : goal.invariant-loop-count
invariant-loop-count g l = (k : ℕ) (d : _) → k < l.count → l.time ≤ (slice_index_or l.entries k d).point.departure
