use Rattle.std.proofs.Common.{arith, ap, sym, subst, ◌∙◌}
use Rattle.shelf_steps.specs.Plays.{TableSeatValue, ShowsLate}
use Rattle.shelf_steps.proofs.Works.{leavings}
use Rattle.shelf_steps.proofs.worker_steps.leave_late.Goals as goal

pub fetch_sub-requires : goal.fetch_sub-requires
fetch_sub-requires c = (
  ap (λ (p : TableSeatValue). p.table) c.worker.view_is ∙ (c.requires.table ∙ sym c.shelves.view_is),
  (let n = c.shelves.invariant.0 in let k = c.requires.late.0 in omega arith),
  leavings _ c.worker.inside.seat.id c.args.shelf c.worker.inside.seat.me
      (subst (λ (p : TableSeatValue). ShowsLate c.args.shelf p.me.0) (sym c.worker.view_is) c.requires.late.1),
)
