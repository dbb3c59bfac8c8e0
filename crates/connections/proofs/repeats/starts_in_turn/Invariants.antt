use Rattle.std.proofs.Common.{◌≡◌, ◌≤◌, ◌-◌}
use Rattle.connections.specs.Repeats.{last_end, starts_before}
use Rattle.connections.proofs.repeats.starts_in_turn.Given as goal

abbrev pub invariant-loop-start : goal.invariant-loop-start
invariant-loop-start l = record { within : l.from ≤ last_end l.rows; found : l.starts.items ≡ starts_before l.rows l.from }

abbrev pub decreases-loop-start : goal.decreases-loop-start
decreases-loop-start l = last_end l.rows - l.from
