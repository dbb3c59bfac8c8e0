use Rattle.std.proofs.Common.{subst, sym}
use Rattle.scan_state.specs.SetQuery.{IsDirectWalk, question}
use Rattle.profile_scan.proofs.LogLemmas.{whole_read}
use Rattle.station_answers.proofs.answering.answer_between.Goals as goal

pub returns-in_err-departures-clause-err : goal.returns-in_err-departures-clause-err
returns-in_err-departures-clause-err g c = whole_read c.from_residual-in_err-departures.result _ _ _ c.in_ok-found.ensures.log

pub returns-clause-points : goal.returns-clause-points
returns-clause-points g c = c.in_ok-departures.ensures.points c.args.criterion.now
    (g.S.ConnSource.timetable c.args.source.now) (question c.args.query.now) c.in_ok-found.ensures.answers

pub returns-clause-journeys : goal.returns-clause-journeys
returns-clause-journeys g c = c.in_ok-departures.ensures.journeys c.args.criterion.now
    (g.S.ConnSource.timetable c.args.source.now) (question c.args.query.now) c.in_ok-found.ensures.answers

pub returns-clause-walk : goal.returns-clause-walk
returns-clause-walk g c = record {
  walk = c.direct_walk.result;
  is_walk = subst (IsDirectWalk (g.S.ConnSource.timetable c.args.source.now) (question c.args.query.now)) (sym c.direct_walk.ensures)
      c.in_ok-found.ensures.answers.answered.direct;
  is = c.secs_of.ensures;
}
