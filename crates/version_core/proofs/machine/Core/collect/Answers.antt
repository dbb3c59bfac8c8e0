use Rattle.std.proofs.Common.{arith}
use Rattle.version_core.proofs.Keeps.{free_kept}
use Rattle.version_core.proofs.machine.Core.collect.Goals as goal

pub invariant_of-self : goal.invariant_of-self
invariant_of-self c =
    let closing = c.if-not-is_closing.ensures in
    free_kept _ c.args.shelf closing.0 c.self.invariant (rw (← c.self.view_is) at closing.1) (omega arith)
