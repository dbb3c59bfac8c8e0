use Rattle.std.proofs.Common.{ℕ, ◌<◌}
use Rattle.version_core.specs.Steps.{IsUnpublished}
use Rattle.version_core.proofs.machine.Core.unpublished.Given as goal

abbrev pub invariant-loop-k : goal.invariant-loop-k
invariant-loop-k l = (j v : ℕ) → j < l.k → ¬ (IsUnpublished l.self j v)
