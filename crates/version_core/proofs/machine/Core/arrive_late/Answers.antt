use Rattle.std.proofs.Common.{arith}
use Rattle.version_core.proofs.Keeps.{looked_fits, arrive_late_kept}
use Rattle.version_core.proofs.machine.Core.arrive_late.Goals as goal

pub bounds-self-inside-shelf : goal.bounds-self-inside-shelf
bounds-self-inside-shelf c = (looked_fits _ c.args.worker c.requires.0 c.args.shelf c.self.invariant (rw (← c.self.view_is) at c.requires.1)).1

pub bounds-self-inside-shelf-2 : goal.bounds-self-inside-shelf-2
bounds-self-inside-shelf-2 c = (looked_fits _ c.args.worker c.requires.0 c.args.shelf c.self.invariant (rw (← c.self.view_is) at c.requires.1)).1

pub offset_bounds-self-inside-worker : goal.offset_bounds-self-inside-worker
offset_bounds-self-inside-worker c = let fits =
    looked_fits _ c.args.worker c.requires.0 c.args.shelf c.self.invariant
    (rw (← c.self.view_is) at c.requires.1) in omega arith

pub bounds-self-inside-worker : goal.bounds-self-inside-worker
bounds-self-inside-worker c = (looked_fits _ c.args.worker c.requires.0 c.args.shelf c.self.invariant (rw (← c.self.view_is) at c.requires.1)).0

pub invariant_of-self : goal.invariant_of-self
invariant_of-self c = arrive_late_kept _ c.args.worker c.requires.0 c.args.shelf c.self.invariant
    (rw (← c.self.view_is) at c.requires.1) (rw (← c.self.view_is) at c.requires.2)
