use Rattle.std.proofs.Common.{◌≡◌, None}
use Rattle.std.specs.Prelude.{replicate}
use Rattle.image_layout.specs.Offsets.{header_of}
use Rattle.timetable.specs.First.{first_below}
use Rattle.image_verifier.specs.declared.closure.TheConstants.{NEVER}
use Rattle.image_verifier.specs.ClosureFaults.{into_fault}
use Rattle.image_verifier.proofs.closure.closure_fault.Given as goal

abbrev pub invariant-loop-into : goal.invariant-loop-into
invariant-loop-into l = record {
  none_before : first_below (into_fault l.words) l.into ≡ None;
  empty : l.secs ≡ replicate (header_of l.words).stops NEVER;
}
