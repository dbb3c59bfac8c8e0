use Rattle.std.proofs.Common.{Contains, subst, sym}
use Rattle.reasoning.proofs.OptionLemmas.{on_err}
use Rattle.timetable.specs.TimetableValue.{TimetableValue}
use Rattle.scan_state.specs.SetQuery.{question}
use Rattle.journeys.specs.Answer.{point_of}
use Rattle.journeys.specs.declared.answering.Departure.{Departure}
use Rattle.station_answers.specs.Attaining.{AttainsPair}
use Rattle.station_answers.specs.Merging.{CoversAll}
use Rattle.station_answers.proofs.ReadLemmas.{all_read}
use Rattle.station_answers.proofs.by_targets.answer_by_targets.Goals as goal

pub departures_of-requires-clause-covers : goal.departures_of-requires-clause-covers
departures_of-requires-clause-covers g c =
    subst (λ (x : TimetableValue). CoversAll (g.C.Criterion.rules c.args.criterion.now) x (question c.args.query.now) c.in_ok-merged.merged)
    (sym c.in_ok-merged.ensures.timetable) c.in_ok-merged.ensures.covers

pub returns-in_err-departures-clause-err : goal.returns-in_err-departures-clause-err
returns-in_err-departures-clause-err g c =
    on_err c.from_residual-in_err-departures.result _ (all_read (g.S.ConnSource.timetable c.args.source.now) (question c.args.query.now)
    (g.S.ConnSource.log c.args.source.now) (g.S.ConnSource.log c.merged_between.new.source) c.in_ok-merged.ensures.log)

pub returns-clause-journeys : goal.returns-clause-journeys
returns-clause-journeys g c =
    subst (λ (x : TimetableValue). (departure : Departure g.row.C-V.Denot) → Contains c.in_ok-departures.departures.items departure
    → AttainsPair (g.C.Criterion.rules c.args.criterion.now) x (question c.args.query.now) (point_of departure) departure.journey)
    c.in_ok-merged.ensures.timetable c.in_ok-departures.ensures.journeys

pub returns-clause-walk : goal.returns-clause-walk
returns-clause-walk g c = record { walk = c.direct_walk-direct.result; is_walk = c.direct_walk-direct.ensures; is = c.secs_of-walk.ensures }
