use Rattle.std.proofs.Common.{◌<◌, ◌+◌, sym, subst}
use Rattle.image_layout.specs.declared.header.Header.{Header}
use Rattle.image_layout.specs.Shown.{name_count}
use Rattle.timetable.specs.First.{first_below}
use Rattle.image_verifier.specs.NameFaults.{name_fault, names_end_fault}
use Rattle.timetable.proofs.FirstLemmas.{first_below-found, or_else-some}
use Rattle.image_verifier.proofs.names.names_fault.Goals as goal

pub returns-in-Some : goal.returns-in-Some
returns-in-Some c =
    let w = c.args.words.now in
    let name = c.loop-name.name in
    let lt : name < name_count w = subst (λ (h : Header). name < h.stops + h.trips) c.of-header.ensures c.loop-name-test.true in
    sym (or_else-some (first_below (name_fault w) (name_count w)) (names_end_fault w) c.in-Some.fault
    (first_below-found (name_fault w) (name_count w) name c.in-Some.fault lt c.loop-name.invariant (sym c.in-Some.ensures)))
