use Rattle.epochs.proofs.TryLemmas.{CollectsBelow}
use Rattle.epochs.proofs.table.VersionTable.try_shelves.Given as goal

abbrev pub invariant-loop-shelf : goal.invariant-loop-shelf
invariant-loop-shelf l = CollectsBelow l.shelf l.fn.self l.found.freed l.found.busy l.self
