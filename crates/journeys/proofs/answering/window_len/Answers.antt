use Rattle.std.proofs.Common.{◌∙◌}
use Rattle.journeys.proofs.AnswerLemmas.{window_count}
use Rattle.journeys.proofs.answering.window_len.Goals as goal

pub returns : goal.returns
returns g c =
    c.saturating_sub.ensures
    ∙ window_count (g.S.ConnSource.timetable c.args.source.now) c.args.query.now c.first_at.result c.first_at-end.result
    (g.met.S.ConnSource.legal c.args.source.now) c.first_at.ensures c.first_at-end.ensures
