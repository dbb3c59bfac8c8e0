use Rattle.std.proofs.Common.{ap, ◌∙◌, sym, subst}
use Rattle.crossbeam_channel.specs.Claims.{view as view_of}
use Rattle.crossbeam_channel.specs.Fifo.{Forks}
use Rattle.handoff.specs.Ends.{keeper_of}
use Rattle.handoff.specs.Queue.{IsQueue, new_putter, with_putter_out}
use Rattle.handoff.specs.Rules.{putter_goes_out}
use Rattle.handoff.proofs.keeper.Keeper.another_putter.Goals as goal

pub another-pass-requires-clause-rule : goal.another-pass-requires-clause-rule
another-pass-requires-clause-rule g c =
    let pass = c.self.inside.pass in
    let open_still = ap (λ value. value.view.closings) c.self.view_is ∙ c.requires.open in
    subst (λ side. Forks (IsQueue _) pass.id side (with_putter_out side) new_putter) (sym c.self.invariant.2)
    (putter_goes_out _ pass.id (keeper_of (view_of pass)) open_still)
