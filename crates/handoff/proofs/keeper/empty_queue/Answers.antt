use Rattle.handoff.specs.Rules.{begins}
use Rattle.handoff.proofs.keeper.empty_queue.Goals as goal

pub bounded_with-requires-clause-rule : goal.bounded_with-requires-clause-rule
bounded_with-requires-clause-rule g c = begins _
