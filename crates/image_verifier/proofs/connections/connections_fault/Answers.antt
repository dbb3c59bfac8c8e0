use Rattle.std.proofs.Common.{◌≡◌, ◌<◌, None, arith, sym, ◌∙◌, refl, subst}
use Rattle.image_layout.specs.Offsets.{header_of}
use Rattle.image_layout.specs.declared.header.Header.{Header}
use Rattle.timetable.specs.First.{first_below}
use Rattle.image_verifier.specs.ConnectionFaults.{connection_fault}
use Rattle.timetable.proofs.FirstLemmas.{first_below-more, first_below-found}
use Rattle.image_verifier.proofs.ConnectionLemmas.{IsSound-from, own_fault-none, AreTripEnds-start, AreTripEnds-more}
use Rattle.image_verifier.proofs.connections.connections_fault.Goals as goal

pub loop-i-init : goal.loop-i-init
unfolding first_below
loop-i-init c = record { none_before = refl; table = AreTripEnds-start c.args.words.now c.args.ends.now c.requires.table }

pub returns-in-Some : goal.returns-in-Some
returns-in-Some c =
    let w = c.args.words.now in
    let lt : c.loop-i.i < (header_of w).connections = subst (λ (h : Header). c.loop-i.i < h.connections) c.of-i-end.ensures c.loop-i-test.true in
    sym (first_below-found (connection_fault w) (header_of w).connections c.loop-i.i c.in-Some.fault lt c.loop-i.invariant.none_before (sym c.in-Some.ensures))

pub bounds-ends-trip_at : goal.bounds-ends-trip_at
bounds-ends-trip_at c =
    let sound = IsSound-from c.args.words.now c.loop-i.i (own_fault-none c.args.words.now c.loop-i.i (sym c.connection_fault.ensures ∙ c.in_default.is)) in
    omega (arith, sound.trip, c.loop-i.invariant.table.size)

pub loop-i-preserved : goal.loop-i-preserved
loop-i-preserved c =
    let w = c.args.words.now in
    let i = c.loop-i.i in
    let none : connection_fault w i ≡ None = sym c.connection_fault.ensures ∙ c.in_default.is in
    let sound = IsSound-from w i (own_fault-none w i none) in
    let table = AreTripEnds-more w i c.loop-i.ends sound c.loop-i.invariant.table in
    record {
      none_before = first_below-more (connection_fault w) i c.loop-i.invariant.none_before none;
      table = rw (c.trip_at.ensures, c.to_at.ensures, c.arr_at.ensures) table;
    }
