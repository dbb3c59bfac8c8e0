use Rattle.std.proofs.Common.{◌<◌, sym, subst}
use Rattle.image_layout.specs.Offsets.{header_of}
use Rattle.image_layout.specs.declared.header.Header.{Header}
use Rattle.timetable.specs.First.{first_below}
use Rattle.image_verifier.specs.FootFaults.{foot_fault, foot_end_fault}
use Rattle.timetable.proofs.FirstLemmas.{first_below-found, or_else-some}
use Rattle.image_verifier.proofs.footpaths.footpaths_fault.Goals as goal

pub returns-in-Some : goal.returns-in-Some
returns-in-Some c =
    let w = c.args.words.now in
    let lt : c.loop-stop.stop < (header_of w).stops = subst (λ (h : Header). c.loop-stop.stop < h.stops) c.of-header.ensures c.loop-stop-test.true in
    sym (or_else-some (first_below (foot_fault w) (header_of w).stops) (foot_end_fault w) c.in-Some.fault
    (first_below-found (foot_fault w) (header_of w).stops c.loop-stop.stop c.in-Some.fault lt c.loop-stop.invariant
    (sym c.in-Some.ensures)))
