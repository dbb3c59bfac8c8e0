use Rattle.std.proofs.Common.{Some, sym, ◌∙◌, ap, arith}
use Rattle.journeys.proofs.SpellLemmas.{ends_by, changes_forward, changes_on, changes_nowhere}
use Rattle.journeys.proofs.extraction.gets_off_at.Goals as goal

pub returns-then-next-number : goal.returns-then-next-number
returns-then-next-number g c =
    let b = c.in-Some-Changes in
    changes_forward (g.F.Spells.nodes c.args.found.now) c.args.number b.last b.next (sym b.ensures ∙ ap Some b.field-0-is) c.if-next-number.true

pub returns-in-Some-Ends : goal.returns-in-Some-Ends
returns-in-Some-Ends g c =
    let b = c.in-Some-Ends in
    ends_by (g.F.Spells.nodes c.args.found.now) c.args.number b.last b.walk (sym b.ensures ∙ ap Some b.field-0-is)

pub returns-in-Some : goal.returns-in-Some
returns-in-Some g c =
    let b = c.in-Some-Changes in
    let on = c.in-Some.boarding in
    let before = c.if-next-number.false in
    let earlier = c.in-Some.ensures.0 in (
      omega (arith, before, earlier),
      changes_on (g.F.Spells.nodes c.args.found.now) c.args.number b.last b.next on.walk on.first on.next
          (sym b.ensures ∙ ap Some b.field-0-is) before c.in-Some.ensures.1,
    )

pub returns-in-None-boards_at : goal.returns-in-None-boards_at
returns-in-None-boards_at g c =
    let b = c.in-Some-Changes in
    changes_nowhere (g.F.Spells.nodes c.args.found.now) c.args.number b.last b.next
    (sym b.ensures ∙ ap Some b.field-0-is) c.if-next-number.false c.in-None-boards_at.ensures
