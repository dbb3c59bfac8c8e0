use Rattle.std.proofs.Common.{ℕ, List}
use Rattle.lanes.proofs.SearchLemmas.{LeadsTo}
use Rattle.lanes.proofs.lane_lists.late.Given as goal

abbrev pub invariant-loop-index : goal.invariant-loop-index
invariant-loop-index l = (passed : List ℕ) × LeadsTo l.entries l.head l.time passed l.index

abbrev pub decreases-loop-index : goal.decreases-loop-index
decreases-loop-index l = l.index
