use Rattle.version_core.proofs.Keeps.{arrive_in_time_kept}
use Rattle.version_core.proofs.machine.Core.arrive_in_time.Goals as goal

pub invariant_of-self : goal.invariant_of-self
invariant_of-self c = arrive_in_time_kept _ c.args.worker c.args.version c.args.shelf c.self.invariant
    (rw (← c.self.view_is) at c.requires.looked) (rw (← c.self.view_is) at c.requires.open)
