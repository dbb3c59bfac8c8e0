use Rattle.std.proofs.Common.{sym, ◌∙◌}
use Rattle.journeys.proofs.LegLemmas.{some_legs, AreLegs-from}
use Rattle.journeys.proofs.counts.path_fault.Goals as goal

pub walks_fault-requires-clause-legs : goal.walks_fault-requires-clause-legs
walks_fault-requires-clause-legs c = AreLegs-from c.args.image.now.timetable c.args.way.now.rides.now (sym c.legs_fault.ensures ∙ c.in_default.is)

pub times_fault-requires : goal.times_fault-requires
times_fault-requires c = record { legs = AreLegs-from c.args.image.now.timetable c.args.way.now.rides.now (sym c.legs_fault.ensures ∙ c.in_default.is) }

pub ends_fault-requires-clause-legs : goal.ends_fault-requires-clause-legs
ends_fault-requires-clause-legs c = AreLegs-from c.args.image.now.timetable c.args.way.now.rides.now (sym c.legs_fault.ensures ∙ c.in_default.is)

pub walks_fault-requires-clause-some : goal.walks_fault-requires-clause-some
walks_fault-requires-clause-some c = some_legs c.args.image.now.timetable c.args.way.now.rides.now (sym c.legs_fault.ensures ∙ c.in_default.is)

pub ends_fault-requires-clause-some : goal.ends_fault-requires-clause-some
ends_fault-requires-clause-some c = some_legs c.args.image.now.timetable c.args.way.now.rides.now (sym c.legs_fault.ensures ∙ c.in_default.is)
