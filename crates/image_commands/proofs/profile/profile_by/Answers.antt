use Rattle.scan_state.specs.SetQuery.{question}
use Rattle.image_commands.proofs.AnswerLemmas.{answer_shown}
use Rattle.image_commands.proofs.profile.profile_by.Goals as goal

pub returns : goal.returns
returns g c =
    let answer = c.in_ok-answer.ensures in
    answer_shown _ _ _ _ _ (question c.args.query.now) _ c.in_ok-answer.answer.departures.items _ _ _ c.in_place-source.ensures.timetable
    answer.points answer.journeys answer.walk answer.read c.in_ok-text.ensures c.in_ok-picture.ensures
