use Rattle.std.proofs.Common.{ℕ, length}
use Rattle.lanes.proofs.JoinLemmas.{IsJoinedFrom}
use Rattle.lanes.proofs.lane_lists.join.Given as goal

abbrev pub invariant-loop-from : goal.invariant-loop-from
invariant-loop-from l = (was : ℕ) × IsJoinedFrom l.fn.entries.items l.head l.index l.entries.items l.passed.items l.new was

abbrev pub decreases-loop-from : goal.decreases-loop-from
decreases-loop-from l = length l.passed.items
