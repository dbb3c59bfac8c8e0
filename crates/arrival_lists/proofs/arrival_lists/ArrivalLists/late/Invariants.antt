use Rattle.arrival_lists.proofs.Searches.{LeadsTo}
use Rattle.arrival_lists.proofs.arrival_lists.ArrivalLists.late.Given as goal

abbrev pub invariant-loop-entry : goal.invariant-loop-entry
invariant-loop-entry l = LeadsTo l.self.entries.items l.head l.time l.index l.entry

abbrev pub decreases-loop-entry : goal.decreases-loop-entry
decreases-loop-entry l = l.index
