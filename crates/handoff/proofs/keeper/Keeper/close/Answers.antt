use Rattle.std.proofs.Common.{◌∙◌, ap, sym, subst}
use Rattle.crossbeam_channel.specs.Claims.{view as view_of}
use Rattle.crossbeam_channel.specs.Fifo.{Pushes}
use Rattle.handoff.specs.Ends.{keeper_of}
use Rattle.handoff.specs.Queue.{IsOneMore, IsQueue}
use Rattle.handoff.specs.Rules.{closes}
use Rattle.handoff.specs.declared.queue.Message.{Message}
use Rattle.handoff.proofs.keeper.Keeper.close.Goals as goal

pub send_as-requires-clause-rule : goal.send_as-requires-clause-rule
send_as-requires-clause-rule g c =
    let pass = c.self.inside.pass in
    let none = ap (λ value. value.view.putting) c.self.view_is ∙ c.requires.back in (
      subst (λ n. Pushes (IsQueue _) n pass.id (view_of pass) Message.Closing (IsOneMore (view_of pass) Message.Closing)) (sym c.self.invariant.1)
          (subst (λ side. Pushes (IsQueue _) _ pass.id side Message.Closing (IsOneMore side Message.Closing)) (sym c.self.invariant.2)
          (closes _ pass.id (keeper_of (view_of pass)) none)),
      λ items views holds at. (views, pass.id, holds, at),
    )
