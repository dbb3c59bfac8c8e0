use Rattle.std.proofs.Common.{arith}
use Rattle.version_core.proofs.Keeps.{stays_fits, depart_kept}
use Rattle.version_core.proofs.machine.Core.depart.Goals as goal

pub bounds-self-inside-shelf : goal.bounds-self-inside-shelf
bounds-self-inside-shelf c = (stays_fits _ c.args.worker c.args.shelf c.self.invariant (rw (← c.self.view_is) at c.requires)).1

pub overflow_sub-self : goal.overflow_sub-self
overflow_sub-self c = (stays_fits _ c.args.worker c.args.shelf c.self.invariant (rw (← c.self.view_is) at c.requires)).2

pub bounds-self-inside-shelf-2 : goal.bounds-self-inside-shelf-2
bounds-self-inside-shelf-2 c = (stays_fits _ c.args.worker c.args.shelf c.self.invariant (rw (← c.self.view_is) at c.requires)).1

pub offset_bounds-self-inside-worker : goal.offset_bounds-self-inside-worker
offset_bounds-self-inside-worker c = let fits = stays_fits _ c.args.worker c.args.shelf c.self.invariant (rw (← c.self.view_is) at c.requires) in omega arith

pub bounds-self-inside-worker : goal.bounds-self-inside-worker
bounds-self-inside-worker c = (stays_fits _ c.args.worker c.args.shelf c.self.invariant (rw (← c.self.view_is) at c.requires)).0

pub invariant_of-self : goal.invariant_of-self
invariant_of-self c = depart_kept _ c.args.worker c.args.shelf c.self.invariant (rw (← c.self.view_is) at c.requires)
