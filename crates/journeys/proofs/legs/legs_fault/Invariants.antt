use Rattle.std.proofs.Common.{◌≡◌, None, ℕ}
use Rattle.reasoning.specs.First.{first_below}
use Rattle.journeys.specs.Faults.{leg_fault, ride_at}
use Rattle.journeys.proofs.legs.legs_fault.Given as goal

abbrev pub invariant-loop-i : goal.invariant-loop-i
invariant-loop-i l = first_below (λ (i : ℕ). leg_fault l.image.timetable i (ride_at l.rides i).leg) l.i ≡ None
