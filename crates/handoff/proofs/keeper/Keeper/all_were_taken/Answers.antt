use Rattle.std.proofs.Common.{sym, subst}
use Rattle.crossbeam_channel.specs.Claims.{view as view_of}
use Rattle.crossbeam_channel.specs.Fifo.{Learns}
use Rattle.handoff.specs.Ends.{keeper_of}
use Rattle.handoff.specs.Queue.{IsQueue, KnowsAllTaken}
use Rattle.handoff.specs.Rules.{learns}
use Rattle.handoff.proofs.keeper.Keeper.all_were_taken.Goals as goal

pub learn_as-requires-clause-rule : goal.learn_as-requires-clause-rule
learn_as-requires-clause-rule g c =
    let pass = c.self.inside.pass in
    subst (λ side. Learns (IsQueue _) pass.id side (λ items. KnowsAllTaken side)) (sym c.self.invariant.2)
    (learns _ pass.id (keeper_of (view_of pass)))
