use Rattle.std.proofs.Common.{sym, subst}
use Rattle.crossbeam_channel.specs.Claims.{view as view_of}
use Rattle.crossbeam_channel.specs.Fifo.{Merges}
use Rattle.handoff.specs.Ends.{items_of, keeper_of, times}
use Rattle.handoff.specs.Queue.{IsQueue, with_back}
use Rattle.handoff.specs.Rules.{taker_comes_back}
use Rattle.handoff.specs.declared.queue.EndView.{EndView}
use Rattle.handoff.proofs.keeper.Keeper.take_back.Goals as goal

pub absorb-requires-clause-rule : goal.absorb-requires-clause-rule
absorb-requires-clause-rule g c =
    let pass = c.self.inside.pass in
    let other = c.taker.inside.pass in
    let closed = times c.taker.inside.closed in
    let At = λ (side there : EndView _). Merges (IsQueue _) pass.id side other.id there (with_back side there) EndView.Rests in
    subst (λ there. At (view_of pass) there) (sym c.taker.invariant.1)
    (subst (λ side. At side (EndView.Taking (items_of (view_of other)) closed)) (sym c.self.invariant.2)
    (taker_comes_back _ pass.id (keeper_of (view_of pass)) other.id (items_of (view_of other)) closed))
