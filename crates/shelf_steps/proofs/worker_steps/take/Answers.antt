use Rattle.std.proofs.Common.{arith, ap, sym, subst, ◌∙◌}
use Rattle.shelf_steps.specs.Plays.{TableSeatValue, ShowsLooked}
use Rattle.shelf_steps.proofs.Works.{takings}
use Rattle.shelf_steps.proofs.worker_steps.take.Goals as goal

pub fetch_add-requires : goal.fetch_add-requires
fetch_add-requires c = (
  ap (λ (p : TableSeatValue). p.table) c.worker.view_is ∙ (c.requires.table ∙ sym c.shelves.view_is),
  (let n = c.shelves.invariant.0 in let k = c.requires.looked.0 in omega arith),
  takings _ c.worker.inside.seat.id c.args.shelf c.worker.inside.seat.me
      (subst (λ (p : TableSeatValue). ShowsLooked c.args.shelf p.me.0) (sym c.worker.view_is) c.requires.looked.1),
)
