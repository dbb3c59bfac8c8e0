use Rattle.std.proofs.Common.{Some, sym, ◌∙◌, ap}
use Rattle.journeys.proofs.SpellLemmas.{boards_by, boards_forward}
use Rattle.journeys.proofs.extraction.boards_at.Goals as goal

pub returns-then-next-number : goal.returns-then-next-number
returns-then-next-number g c =
    let b = c.in-Some-Boards in (
      c.if-next-number.true,
      boards_by (g.F.Spells.nodes c.args.found.now) c.args.number b.walk b.first b.next
          (sym b.ensures ∙ ap Some b.field-0-is) c.if-next-number.true,
    )

pub returns-else-next-number : goal.returns-else-next-number
returns-else-next-number g c =
    let b = c.in-Some-Boards in
    boards_forward (g.F.Spells.nodes c.args.found.now) c.args.number b.walk b.first b.next (sym b.ensures ∙ ap Some b.field-0-is) c.if-next-number.false
