use Rattle.std.proofs.Common.{◌∙◌, refl}
use Rattle.std.proofs.lemmas.Result.{IfOk-weaker}
use Rattle.scan_state.specs.SetQuery.{question}
use Rattle.answer_replies.proofs.AnswerLemmas.{answered_line, reads_part, reads_whole, whole_is_part}
use Rattle.answer_replies.proofs.replying.line_by.Goals as goal

pub returns-in-Err-clause-part : goal.returns-in-Err-clause-part
returns-in-Err-clause-part g c =
    let part = c.in-Err.ensures.err in
    reads_part _ _ _ _ _ (question c.args.query.now) part.0 c.new-source.ensures.log c.new-source.ensures.timetable (c.into_log.ensures ∙ part.1)

pub returns-clause-line : goal.returns-clause-line
returns-clause-line g c =
    let answer = c.in-Ok.ensures in
    IfOk-weaker c.profile_reply-line.result _ _
    (λ line fact. answered_line _ _ _ _ _ _ _ c.in-Ok.answer.departures.items _ _ _ c.new-source.ensures.timetable
    answer.points answer.journeys answer.walk refl fact)
    c.profile_reply-line.ensures

pub returns-clause-part : goal.returns-clause-part
returns-clause-part g c =
    whole_is_part _ _ _ (reads_whole _ _ _ _ _ (question c.args.query.now) c.new-source.ensures.log c.new-source.ensures.timetable
    (c.into_log-2.ensures ∙ c.in-Ok.ensures.log))
