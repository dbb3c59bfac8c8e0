use Rattle.std.proofs.Common.{Contains, IfOk, subst}
use Rattle.timetable.specs.TimetableValue.{TimetableValue}
use Rattle.journeys.specs.Answer.{point_of}
use Rattle.journeys.specs.Extracted.{AttainsBetween}
use Rattle.profile_scan.specs.Everywhere.{asked_to_any, criterion_to_any}
use Rattle.scan_state.specs.Origins.{from_stop}
use Rattle.departure_lines.proofs.stop_lines.journeys_from.Goals as goal

pub returns-clause-journeys : goal.returns-clause-journeys
returns-clause-journeys g c =
    let profiles = c.args.shown.now.profiles.now in
    subst (λ (t : TimetableValue). IfOk c.departures_from.result (λ departures. (departure : _) → Contains departures.items departure
    → AttainsBetween (g.C.Criterion.rules (criterion_to_any profiles)) t (from_stop (asked_to_any profiles) c.args.stop)
    (point_of departure) departure.journey))
    c.in_place-source.ensures.timetable c.departures_from.ensures.journeys
