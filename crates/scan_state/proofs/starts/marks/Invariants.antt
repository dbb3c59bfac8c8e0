use Rattle.scan_state.specs.Starts.{AreMarked}
use Rattle.scan_state.proofs.starts.marks.Given as goal

abbrev pub invariant-loop-k : goal.invariant-loop-k
invariant-loop-k l = AreMarked l.sources l.k l.stops l.marked.items
