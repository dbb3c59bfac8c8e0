use Rattle.std.proofs.Common.{◌<◌, sym, subst, ◌∙◌}
use Rattle.image_layout.specs.Offsets.{header_of}
use Rattle.image_layout.specs.declared.header.Header.{Header}
use Rattle.image_verifier.specs.ClosureFaults.{into_fault}
use Rattle.timetable.proofs.FirstLemmas.{first_below-start, first_below-more, first_below-found}
use Rattle.image_verifier.proofs.closure.closure_fault.Goals as goal

pub loop-into-init : goal.loop-into-init
loop-into-init c = record { none_before = first_below-start (into_fault c.args.words.now); empty = c.requires.empty }

pub returns-in-Some : goal.returns-in-Some
returns-in-Some c =
    let w = c.args.words.now in
    let into = c.loop-into.into in
    let lt : into < (header_of w).stops = subst (λ (h : Header). into < h.stops) c.of-into-end.ensures c.loop-into-test.true in
    sym (first_below-found (into_fault w) (header_of w).stops into c.in-Some.fault lt c.loop-into.invariant.none_before (sym c.in-Some.ensures.fault))

pub loop-into-preserved : goal.loop-into-preserved
loop-into-preserved c = record {
  none_before = first_below-more (into_fault c.args.words.now) c.loop-into.into c.loop-into.invariant.none_before
      (sym c.into_fault.ensures.fault ∙ c.in_default.is);
  empty = c.in_default.ensures.empty;
}
