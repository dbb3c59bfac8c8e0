use Rattle.std.proofs.Common.{arith, subst}
use Rattle.version_core.specs.declared.state.Shelf.{Shelf}
use Rattle.version_core.specs.Invariants.{KeepsInvariants}
use Rattle.version_core.proofs.Keeps.{on_none}
use Rattle.version_core.proofs.machine.Core.unpublished.Goals as goal

pub returns : goal.returns
returns c = λ k v new. on_none c.args.self.now (Shelf.Open v) (subst KeepsInvariants c.self.view_is c.self.invariant)
    (λ j less is. c.loop-k.invariant j v (let t = c.loop-k-test.false in omega arith) (is, new.1)) k new.0
