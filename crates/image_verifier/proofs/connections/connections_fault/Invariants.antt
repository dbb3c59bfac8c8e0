use Rattle.std.proofs.Common.{◌≡◌, None}
use Rattle.timetable.specs.First.{first_below}
use Rattle.image_verifier.specs.ConnectionFaults.{connection_fault, AreTripEnds}
use Rattle.image_verifier.proofs.connections.connections_fault.Given as goal

abbrev pub invariant-loop-i : goal.invariant-loop-i
invariant-loop-i l = record {
  none_before : first_below (connection_fault l.words) l.i ≡ None;
  table : AreTripEnds l.words l.i l.ends;
}
