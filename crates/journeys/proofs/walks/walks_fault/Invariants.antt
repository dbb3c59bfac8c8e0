use Rattle.std.proofs.Common.{◌≡◌, None}
use Rattle.reasoning.specs.First.{first_below}
use Rattle.journeys.specs.Faults.{walk_after_fault}
use Rattle.journeys.proofs.walks.walks_fault.Given as goal

abbrev pub invariant-loop-i : goal.invariant-loop-i
invariant-loop-i l = first_below (walk_after_fault l.image.timetable l.rides) l.i ≡ None
