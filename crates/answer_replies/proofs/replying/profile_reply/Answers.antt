use Rattle.std.proofs.Common.{◌∙◌, ap}
use Rattle.std.proofs.lemmas.Result.{IfOk-weaker}
use Rattle.answer_replies.specs.Replying.{departures_data}
use Rattle.session_texts.specs.Replies.{line_of, profile_data}
use Rattle.answer_replies.proofs.replying.profile_reply.Goals as goal

pub returns : goal.returns
returns g c =
    let points = c.in_ok-points.ensures ∙ ap (departures_data c.args.form c.args.image.now g.C.ShowsFigures.figures) c.deref.ensures.value in
    IfOk-weaker c.profile_line.result _ _ (λ line fact. fact ∙ ap (λ points. line_of (profile_data points c.args.version c.args.answer.now.walk)) points)
    c.profile_line.ensures
