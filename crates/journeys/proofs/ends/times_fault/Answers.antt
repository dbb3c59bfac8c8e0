use Rattle.std.proofs.Common.{sym, length, arith}
use Rattle.reasoning.proofs.FirstLemmas.{first_between-found}
use Rattle.journeys.specs.Faults.{early_fault, times_fault}
use Rattle.journeys.proofs.ends.times_fault.Goals as goal

pub returns-in-Some : goal.returns-in-Some
unfolding times_fault
returns-in-Some c =
    let t = c.args.image.now.timetable in
    let rides = c.args.rides.now in
    sym (first_between-found (early_fault t rides) 1 (length rides) c.loop-i.i c.in-Some.fault (omega arith) (omega arith) c.loop-i.invariant
    (sym c.in-Some.ensures))
