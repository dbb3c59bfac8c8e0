use Rattle.version_core.proofs.Keeps.{close_kept}
use Rattle.version_core.proofs.machine.Core.close.Goals as goal

pub invariant_of-self : goal.invariant_of-self
invariant_of-self c = let outdated = c.in-Some.ensures in close_kept _ c.args.shelf _ c.self.invariant (rw (← c.self.view_is) at outdated)
