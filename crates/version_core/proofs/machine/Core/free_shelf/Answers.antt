use Rattle.std.proofs.Common.{arith, subst}
use Rattle.version_core.specs.declared.state.Shelf.{Shelf}
use Rattle.version_core.specs.Invariants.{KeepsInvariants}
use Rattle.version_core.proofs.Keeps.{on_none}
use Rattle.version_core.proofs.machine.Core.free_shelf.Goals as goal

pub returns : goal.returns
returns c = on_none c.args.self.now Shelf.Free (subst KeepsInvariants c.self.view_is c.self.invariant)
    (λ j less. c.loop-k.invariant j (let t = c.loop-k-test.false in omega arith))
