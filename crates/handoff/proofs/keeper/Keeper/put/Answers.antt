use Rattle.std.proofs.Common.{◌∙◌, ap, sym, subst, arith}
use Rattle.crossbeam_channel.specs.Claims.{view as view_of}
use Rattle.crossbeam_channel.specs.Fifo.{Pushes}
use Rattle.handoff.specs.Ends.{keeper_of}
use Rattle.handoff.specs.Queue.{IsOneMore, IsQueue}
use Rattle.handoff.specs.Rules.{keeper_puts}
use Rattle.handoff.specs.declared.queue.Message.{Message}
use Rattle.handoff.proofs.keeper.Keeper.put.Goals as goal

pub send-requires : goal.send-requires
send-requires g c =
    let pass = c.self.inside.pass in
    let message = Message.Item c.args.item in
    let open_still = ap (λ value. value.view.closings) c.self.view_is ∙ c.requires.open in
    let puts = subst (λ side. Pushes (IsQueue _) _ pass.id side message (IsOneMore side message)) (sym c.self.invariant.2)
    (keeper_puts _ pass.id (keeper_of (view_of pass)) c.args.item open_still) in (
      omega arith,
      (
        c.self.invariant.0,
        subst (λ n. Pushes (IsQueue _) n pass.id (view_of pass) message (IsOneMore (view_of pass) message)) (sym c.self.invariant.1) puts,
      ),
    )
