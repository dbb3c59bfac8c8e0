use Rattle.std.proofs.Common.{◌≡◌, None}
use Rattle.timetable.specs.First.{first_below}
use Rattle.image_verifier.specs.NameFaults.{name_fault}
use Rattle.image_verifier.proofs.names.names_fault.Given as goal

abbrev pub invariant-loop-name : goal.invariant-loop-name
invariant-loop-name l = first_below (name_fault l.words) l.name ≡ None
