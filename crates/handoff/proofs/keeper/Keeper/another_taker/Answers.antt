use Rattle.std.proofs.Common.{sym, subst}
use Rattle.crossbeam_channel.specs.Claims.{view as view_of}
use Rattle.crossbeam_channel.specs.Fifo.{Forks}
use Rattle.handoff.specs.Ends.{keeper_of}
use Rattle.handoff.specs.Queue.{IsQueue, new_taker, with_taker_out}
use Rattle.handoff.specs.Rules.{taker_goes_out}
use Rattle.handoff.proofs.keeper.Keeper.another_taker.Goals as goal

pub another-pass-requires-clause-rule : goal.another-pass-requires-clause-rule
another-pass-requires-clause-rule g c =
    let pass = c.self.inside.pass in
    subst (λ side. Forks (IsQueue _) pass.id side (with_taker_out side) new_taker) (sym c.self.invariant.2)
    (taker_goes_out _ pass.id (keeper_of (view_of pass)))
