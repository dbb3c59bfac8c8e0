use Rattle.std.proofs.Common.{[], sym, subst}
use Rattle.crossbeam_channel.specs.Fifo.{Pops}
use Rattle.load_orders.specs.AnswerChannels.{IsOneAnswerMore}
use Rattle.load_orders.proofs.answer_channels.AnswerReceiver.receive.Goals as goal

pub recv_as-requires-clause-rule : goal.recv_as-requires-clause-rule
recv_as-requires-clause-rule g c =
    let pass = c.self.inside.pass in (
      subst (λ side. Pops g.P.Protocol.holds pass.id side (IsOneAnswerMore side)) (sym c.self.invariant.1) (g.met.P.AnswerRule.kept pass.id []),
      λ items ends holds at. (ends, pass.id, holds, at),
    )
