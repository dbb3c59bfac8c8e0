use Rattle.std.proofs.Common.{arith, ap, sym, subst, ◌∙◌}
use Rattle.shelf_steps.specs.Plays.{TableSeatValue, HoldsOut}
use Rattle.shelf_steps.proofs.Works.{givings}
use Rattle.shelf_steps.proofs.worker_steps.give_back.Goals as goal

pub fetch_sub-requires : goal.fetch_sub-requires
fetch_sub-requires c = (
  ap (λ (p : TableSeatValue). p.table) c.worker.view_is ∙ (c.requires.table ∙ sym c.shelves.view_is),
  (let n = c.shelves.invariant.0 in let k = c.requires.holds.0 in omega arith),
  givings _ c.worker.inside.seat.id c.args.shelf c.worker.inside.seat.me c.shelves.invariant.1
      (subst (λ (p : TableSeatValue). HoldsOut c.args.shelf p.me.0 p.me.1) (sym c.worker.view_is) c.requires.holds.1),
)
