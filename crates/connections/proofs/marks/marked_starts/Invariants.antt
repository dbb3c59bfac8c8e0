use Rattle.std.proofs.Common.{◌≡◌}
use Rattle.connections.specs.Repeats.{starts_before}
use Rattle.connections.proofs.marks.marked_starts.Given as goal

abbrev pub invariant-loop-second : goal.invariant-loop-second
invariant-loop-second l = l.starts.items ≡ starts_before l.rows l.second
