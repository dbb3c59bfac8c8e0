use Rattle.std.proofs.Common.{arith, ap, sym, subst, ◌∙◌}
use Rattle.shelf_steps.specs.Plays.{TableSeatValue, ShowsIdle}
use Rattle.shelf_steps.proofs.Works.{looks}
use Rattle.shelf_steps.proofs.worker_steps.look.Goals as goal

pub load-requires : goal.load-requires
load-requires c = (
  ap (λ (p : TableSeatValue). p.table) c.worker.view_is ∙ (c.requires.table ∙ sym c.shelves.view_is),
  (let n = c.shelves.invariant.0 in omega arith),
  looks _ c.worker.inside.seat.id c.worker.inside.seat.me (subst (λ (p : TableSeatValue). ShowsIdle p.me.0) (sym c.worker.view_is) c.requires.idle),
)
