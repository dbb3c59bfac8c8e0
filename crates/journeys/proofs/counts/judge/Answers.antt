use Rattle.std.proofs.Common.{sym, ◌∙◌}
use Rattle.timetable.specs.JourneyValue.{JourneyValue}
use Rattle.journeys.proofs.LegLemmas.{some_legs, AreLegs-from}
use Rattle.journeys.proofs.CountLemmas.{first_fault-path, legs_without, IsJudged-from}
use Rattle.journeys.proofs.counts.judge.Goals as goal

pub returns-in-Some : goal.returns-in-Some
returns-in-Some c =
    let j : JourneyValue = record { start = c.args.way.now.start; rides = c.args.way.now.rides.now } in
    first_fault-path c.args.image.now.timetable c.args.query.now j c.in-Some.fault (sym c.in-Some.ensures)

pub times_inside-requires-clause-legs : goal.times_inside-requires-clause-legs
times_inside-requires-clause-legs c =
    let t = c.args.image.now.timetable in
    let rides = c.args.way.now.rides.now in
    AreLegs-from t rides (legs_without t c.args.query.now c.args.way.now.start rides (sym c.path_fault.ensures ∙ c.in_default.is))

pub times_inside-requires-clause-some : goal.times_inside-requires-clause-some
times_inside-requires-clause-some c =
    let t = c.args.image.now.timetable in
    let rides = c.args.way.now.rides.now in
    some_legs t rides (legs_without t c.args.query.now c.args.way.now.start rides (sym c.path_fault.ensures ∙ c.in_default.is))

pub returns : goal.returns
returns c =
    let j : JourneyValue = record { start = c.args.way.now.start; rides = c.args.way.now.rides.now } in
    IsJudged-from c.args.image.now.timetable c.args.query.now j c.times_inside.result (sym c.path_fault.ensures ∙ c.in_default.is) c.times_inside.ensures
