use Rattle.std.proofs.Common.{◌≡◌, take}
use Rattle.connections.specs.Repeats.{last_end}
use Rattle.connections.proofs.marks.end_of.Given as goal

abbrev pub invariant-loop-row : goal.invariant-loop-row
invariant-loop-row l = l.end ≡ last_end (take l.row-index l.rows)
