use Rattle.std.proofs.Common.{[], sym, subst}
use Rattle.crossbeam_channel.specs.Ends.{ruled_capacity, sends_on}
use Rattle.crossbeam_channel.specs.Fifo.{Pushes}
use Rattle.load_orders.specs.AnswerChannels.{IsOneAnswerMore, IsAnswerChannel}
use Rattle.load_orders.specs.AnswerRules.{tells}
use Rattle.load_orders.proofs.answer_channels.AnswerSender.send.Goals as goal

pub try_send_as-requires-clause-rule : goal.try_send_as-requires-clause-rule
try_send_as-requires-clause-rule g c =
    let here = c.self.inside in
    let room = ruled_capacity (sends_on here.sender) in (
      subst (λ side. Pushes IsAnswerChannel room here.pass.id side c.args.answer (IsOneAnswerMore side c.args.answer)) (sym c.self.invariant.2)
          (tells room here.pass.id [] c.args.answer),
      λ items ends holds at. tt,
    )
