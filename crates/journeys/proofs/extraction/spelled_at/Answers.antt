use Rattle.std.proofs.Common.{Some, sym, ◌∙◌, ap}
use Rattle.profile_scan.specs.Nodes.{spelled}
use Rattle.journeys.specs.Extracted.{rides_on}
use Rattle.journeys.proofs.SpellLemmas.{sets_out_forward, starts_by, starts_nowhere, some_is, none_is}
use Rattle.journeys.proofs.extraction.spelled_at.Goals as goal

pub returns-then-next-number : goal.returns-then-next-number
returns-then-next-number g c =
    let b = c.in-Some-SetsOut in
    sets_out_forward (g.F.Spells.nodes c.args.found.now) c.args.number b.start b.first b.next (sym b.ensures ∙ ap Some b.field-0-is) c.if-next-number.true

pub returns-in-Some : goal.returns-in-Some
returns-in-Some g c =
    let b = c.in-Some-SetsOut in
    let nodes = g.F.Spells.nodes c.args.found.now in
    starts_by nodes c.args.number b.start b.first b.next c.in-Some.rides.items (sym b.ensures ∙ ap Some b.field-0-is) c.if-next-number.false
    (some_is (λ rides. rides.items) (rides_on b.first (spelled nodes b.next).aboard) c.in_ok-rides-in-Some-SetsOut.field-0 c.in-Some.rides c.in-Some.is
    c.in_ok-rides-in-Some-SetsOut.ensures)

pub returns-in-None-2 : goal.returns-in-None-2
returns-in-None-2 g c =
    let b = c.in-Some-SetsOut in
    let nodes = g.F.Spells.nodes c.args.found.now in
    starts_nowhere nodes c.args.number b.start b.first b.next (sym b.ensures ∙ ap Some b.field-0-is) c.if-next-number.false
    (none_is (λ rides. rides.items) (rides_on b.first (spelled nodes b.next).aboard) c.in_ok-rides-in-Some-SetsOut.field-0 c.in-None-2.is
    c.in_ok-rides-in-Some-SetsOut.ensures)
