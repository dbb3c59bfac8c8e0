use Rattle.std.proofs.Common.{◌≡◌, ◌<◌, ◌≤◌, ℕ, true, length, slice_index_or}
use Rattle.bags.specs.Dominance.{comes_before}
use Rattle.bags.proofs.insertion.index_of.Given as goal

abbrev pub invariant-loop-index : goal.invariant-loop-index
invariant-loop-index g l = record {
  first : l.first ≤ l.index;
  within : l.index ≤ length l.entries;
  after : (k : ℕ) (d : _) → l.index ≤ k → k < length l.entries
      → comes_before (g.C.Criterion.rules l.criterion) l.point (slice_index_or l.entries k d).point ≡ true;
}

abbrev pub decreases-loop-index : goal.decreases-loop-index
decreases-loop-index g l = l.index
