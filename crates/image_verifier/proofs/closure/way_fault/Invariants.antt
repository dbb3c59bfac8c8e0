use Rattle.std.proofs.Common.{◌≡◌, None}
use Rattle.image_layout.specs.Fields.{foot_index_of, foot_from_of}
use Rattle.timetable.specs.First.{first_between}
use Rattle.image_verifier.proofs.ClosureLemmas.{open_at}
use Rattle.image_verifier.proofs.closure.way_fault.Given as goal

abbrev pub invariant-loop-first : goal.invariant-loop-first
invariant-loop-first l =
    first_between (open_at l.words (foot_from_of l.words l.second) l.into) (foot_index_of l.words (foot_from_of l.words l.second)) l.first ≡ None
