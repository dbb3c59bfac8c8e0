use Rattle.std.proofs.Common.{arith, ◌≡◌, length, vec_len}
use Rattle.std.proofs.lemmas.Bool.Decides.{nat_tests}
use Rattle.version_core.proofs.Keeps.{may_open_where}
use Rattle.version_core.proofs.machine.Core.may_open.Goals as goal

pub returns-then-newest-self : goal.returns-then-newest-self
returns-then-newest-self c =
    let size : vec_len c.self.inside.editions ≡ length c.self.inside.editions.items = omega (arith, c.self.inside.editions.ok.0) in
    rw (← c.self.view_is) (may_open_where _ _ c.self.invariant (omega arith) (λ few. grind (arith, nat_tests)) (λ many less. grind (arith, nat_tests)))
