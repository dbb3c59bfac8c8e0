use Rattle.std.proofs.Common.{length}
use Rattle.arrival_lists.proofs.Insertions.{Joins}
use Rattle.arrival_lists.proofs.arrival_lists.ArrivalLists.join.Given as goal

abbrev pub invariant-loop-entry : goal.invariant-loop-entry
invariant-loop-entry l = Joins l.fn.self l.fn.first l.self l.new

abbrev pub decreases-loop-entry : goal.decreases-loop-entry
decreases-loop-entry l = length l.self.passed.items
