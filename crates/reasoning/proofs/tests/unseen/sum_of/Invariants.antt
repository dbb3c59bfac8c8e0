use Rattle.std.proofs.Common.{◌+◌}
use Rattle.reasoning.proofs.tests.unseen.sum_of.Given as goal

abbrev pub ghost-at : goal.ghost-at
ghost-at a = a.first.now + a.second.now
