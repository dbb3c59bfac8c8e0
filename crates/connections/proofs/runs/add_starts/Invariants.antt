use Rattle.std.proofs.Common.{◌≡◌, ◌++◌, take}
use Rattle.connections.specs.Runs.{repeats_from}
use Rattle.connections.proofs.runs.add_starts.Given as goal

abbrev pub invariant-loop-position : goal.invariant-loop-position
invariant-loop-position l = l.runs.items ≡ l.fn.runs.items ++ repeats_from l.day l.trip 0 (take l.position l.starts)
