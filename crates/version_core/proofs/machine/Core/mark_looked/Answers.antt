use Rattle.version_core.proofs.Keeps.{look_kept}
use Rattle.version_core.proofs.machine.Core.mark_looked.Goals as goal

pub invariant_of-self : goal.invariant_of-self
invariant_of-self c = look_kept _ c.args.worker c.self.invariant (rw (← c.self.view_is) at c.requires)
