use Rattle.std.proofs.Common.{◌≡◌}
use Rattle.arrival_lists.proofs.Searches.{Passes}
use Rattle.arrival_lists.proofs.arrival_lists.ArrivalLists.pass.Given as goal

abbrev pub invariant-loop-entry : goal.invariant-loop-entry
invariant-loop-entry l = record {
  same : l.self.entries ≡ l.fn.self.entries;
  passes : Passes l.fn.self.entries.items l.head l.departure l.time l.index l.entry l.self.passed.items;
}

abbrev pub decreases-loop-entry : goal.decreases-loop-entry
decreases-loop-entry l = l.index
