use Rattle.std.proofs.Common.{◌≡◌, None}
use Rattle.reasoning.specs.First.{first_between}
use Rattle.journeys.specs.Faults.{early_fault}
use Rattle.journeys.proofs.ends.times_fault.Given as goal

abbrev pub invariant-loop-i : goal.invariant-loop-i
invariant-loop-i l = first_between (early_fault l.image.timetable l.rides) 1 l.i ≡ None
