use Rattle.std.proofs.Common.{◌≡◌, None}
use Rattle.timetable.specs.First.{first_below}
use Rattle.image_verifier.specs.FootFaults.{foot_fault}
use Rattle.image_verifier.proofs.footpaths.footpaths_fault.Given as goal

abbrev pub invariant-loop-stop : goal.invariant-loop-stop
invariant-loop-stop l = first_below (foot_fault l.words) l.stop ≡ None
