use Rattle.lanes.proofs.SearchLemmas.{LeadsTo}
use Rattle.lanes.proofs.lane_lists.pass.Given as goal

abbrev pub invariant-loop-index : goal.invariant-loop-index
invariant-loop-index l = LeadsTo l.entries l.head l.time l.passed.items l.index

abbrev pub decreases-loop-index : goal.decreases-loop-index
decreases-loop-index l = l.index
