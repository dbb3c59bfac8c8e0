use Rattle.std.proofs.Common.{◌≡◌, ◌∙◌, ◌+◌, ap, sym, subst}
use Rattle.crossbeam_channel.specs.Claims.{view as view_of}
use Rattle.crossbeam_channel.specs.Fifo.{Forks, Pushes}
use Rattle.handoff.specs.Ends.{items_of, tries_of}
use Rattle.handoff.specs.Queue.{IsOneMore, tried}
use Rattle.handoff.specs.declared.queue.Message.{Message}
use Rattle.handoff.specs.declared.queue.EndView.{EndView}
use Rattle.handoff.proofs.putting.PutEnd.try_put.Goals as goal

pub another-requires-clause-rule : goal.another-requires-clause-rule
another-requires-clause-rule g c =
    let pass = c.self.inside.pass in
    subst (λ side. Forks g.P.Protocol.holds pass.id side (tried side) EndView.Rests) (sym c.self.invariant.2)
    (g.met.P.PutRule.kept.tries pass.id (items_of (view_of pass)) (tries_of (view_of pass)))

pub try_send_as-requires-clause-rule : goal.try_send_as-requires-clause-rule
try_send_as-requires-clause-rule g c =
    let known = view_of c.self.inside.pass in
    let pass = c.another.new.pass in
    let message = Message.Item c.args.item in
    let is : view_of pass ≡ EndView.Putting (items_of known) (tries_of known + 1) = c.another.ensures.rule.0 ∙ ap tried c.self.invariant.2 in (
      subst (λ n. Pushes g.P.Protocol.holds n pass.id (view_of pass) message (IsOneMore (view_of pass) message)) (sym c.self.invariant.1)
          (subst (λ side. Pushes g.P.Protocol.holds _ pass.id side message (IsOneMore side message)) (sym is)
          (g.met.P.PutRule.kept.puts pass.id (items_of known) (tries_of known + 1) c.args.item)),
      λ items views holds at. (views, pass.id, holds, at),
    )
