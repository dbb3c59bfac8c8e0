use Rattle.std.proofs.Common.{ℕ, ◌<◌}
use Rattle.version_core.specs.Steps.{IsFree}
use Rattle.version_core.proofs.machine.Core.free_shelf.Given as goal

abbrev pub invariant-loop-k : goal.invariant-loop-k
invariant-loop-k l = (j : ℕ) → j < l.k → ¬ (IsFree l.self j)
