use Rattle.std.proofs.lemmas.Result.{IfOk-weaker}
use Rattle.scan_state.specs.Origins.{from_stop}
use Rattle.profile_scan.specs.Everywhere.{asked_to_any, criterion_to_any}
use Rattle.journeys.proofs.departures.departures_from.Goals as goal

pub returns-clause-points : goal.returns-clause-points
returns-clause-points g c =
    let profiles = c.args.profiles.now in
    IfOk-weaker c.departures_between.result _ _
    (λ departures answer. answer (criterion_to_any profiles) (g.S.ConnSource.timetable c.args.source.now)
    (from_stop (asked_to_any profiles) c.args.stop) c.in_ok-found.ensures)
    c.departures_between.ensures.points

pub returns-clause-journeys : goal.returns-clause-journeys
returns-clause-journeys g c =
    let profiles = c.args.profiles.now in
    IfOk-weaker c.departures_between.result _ _
    (λ departures attained. attained (criterion_to_any profiles) (g.S.ConnSource.timetable c.args.source.now)
    (from_stop (asked_to_any profiles) c.args.stop) c.in_ok-found.ensures)
    c.departures_between.ensures.journeys
