use Rattle.std.proofs.Common.{◌≡◌}
use Rattle.tests_version.proofs.tests.steps.publish_any.Given as goal

abbrev pub invariant-loop-k : goal.invariant-loop-k
invariant-loop-k l = l.loader ≡ l.fn.loader
