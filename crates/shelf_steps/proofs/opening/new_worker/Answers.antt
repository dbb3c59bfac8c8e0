use Rattle.std.proofs.Common.{arith, ap, sym, subst, ◌∙◌}
use Rattle.shelf_steps.specs.Plays.{TableSeatValue, MayHandOut}
use Rattle.shelf_steps.proofs.Opens.{splits}
use Rattle.shelf_steps.proofs.opening.new_worker.Goals as goal

pub split_seat-seat-requires : goal.split_seat-seat-requires
split_seat-seat-requires c = (
  ap (λ (p : TableSeatValue). p.table) c.loader.view_is ∙ (c.requires.table ∙ sym c.shelves.view_is),
  (let n = c.shelves.invariant.0 in omega arith),
  splits c.loader.inside.seat.id c.loader.inside.seat.me.0 (subst (λ (p : TableSeatValue). MayHandOut p.me.0) (sym c.loader.view_is) c.requires.room),
)
