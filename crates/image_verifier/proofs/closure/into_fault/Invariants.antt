use Rattle.std.proofs.Common.{◌≡◌, None}
use Rattle.image_layout.specs.Fields.{foot_index_of}
use Rattle.timetable.specs.First.{first_between}
use Rattle.image_verifier.proofs.ClosureLemmas.{way_at}
use Rattle.image_verifier.proofs.closure.into_fault.Given as goal

abbrev pub invariant-loop-second : goal.invariant-loop-second
invariant-loop-second l = first_between (way_at l.words l.into) (foot_index_of l.words l.into) l.second ≡ None
