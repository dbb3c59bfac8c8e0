use Rattle.std.proofs.Common.{arith, ap, sym, subst, ◌∙◌}
use Rattle.shelf_steps.specs.Plays.{TableSeatValue, IsLoading}
use Rattle.shelf_steps.proofs.NoteSteps.{note_splits}
use Rattle.shelf_steps.proofs.noting.note.Goals as goal

pub split_seat-seat-requires : goal.split_seat-seat-requires
split_seat-seat-requires c = (
  ap (λ (p : TableSeatValue). p.table) c.loader.view_is ∙ (c.requires.table ∙ sym c.shelves.view_is),
  (let n = c.shelves.invariant.0 in omega arith),
  note_splits c.loader.inside.seat.id c.loader.inside.seat.me.0 (subst (λ (p : TableSeatValue). IsLoading p.me.0) (sym c.loader.view_is) c.requires.loader),
)
