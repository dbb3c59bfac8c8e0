use Rattle.std.proofs.Common.{arith, ap, sym, subst, ◌∙◌}
use Rattle.shelf_steps.specs.Plays.{TableSeatValue, SeatAndSlots, ShowsSettled}
use Rattle.shelf_steps.proofs.NoteSteps.{note_joins}
use Rattle.shelf_steps.proofs.noting.join.Goals as goal

pub join_seat-requires : goal.join_seat-requires
join_seat-requires c =
    let notice = ap (λ (p : TableSeatValue). p.me) c.notice.view_is ∙ c.requires.notice.1 in (
      ap (λ (p : TableSeatValue). p.table) c.worker.view_is ∙ (c.requires.table.0 ∙ sym c.shelves.view_is),
      ap (λ (p : TableSeatValue). p.table) c.notice.view_is ∙ (c.requires.table.1 ∙ sym c.shelves.view_is),
      ap (λ (m : SeatAndSlots). m.1) notice,
      (let n = c.shelves.invariant.0 in omega arith),
      note_joins c.worker.inside.seat.id c.notice.inside.seat.id c.requires.notice.0 c.worker.inside.seat.me.0 c.notice.inside.seat.me (subst (λ
          (p : TableSeatValue). ShowsSettled p.me.0) (sym c.worker.view_is) c.requires.settled) notice,
    )
