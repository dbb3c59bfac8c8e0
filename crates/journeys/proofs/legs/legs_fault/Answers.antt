use Rattle.std.proofs.Common.{ℕ, length, sym, ap, ◌∙◌, arith}
use Rattle.reasoning.proofs.FirstLemmas.{first_below-found}
use Rattle.journeys.specs.Faults.{leg_fault, ride_at}
use Rattle.journeys.proofs.LegLemmas.{legs_fault-first}
use Rattle.journeys.proofs.legs.legs_fault.Goals as goal

pub returns-in-Some : goal.returns-in-Some
returns-in-Some c =
    let t = c.args.image.now.timetable in
    let rides = c.args.rides.now in
    let i = c.loop-i.i in
    let here = sym c.in-Some.ensures in
    sym (legs_fault-first t rides c.if-rides-eq0.false
    ∙ first_below-found (λ (k : ℕ). leg_fault t k (ride_at rides k).leg) (length rides) i c.in-Some.fault (omega arith) c.loop-i.invariant
    (ap (leg_fault t i) (sym c.leg_at.ensures) ∙ here))
