use Rattle.std.proofs.Common.{arith, ◌≡◌, length, vec_len}
use Rattle.version_core.proofs.Keeps.{open_kept}
use Rattle.version_core.proofs.machine.Core.open.Goals as goal

pub invariant_of-self-2 : goal.invariant_of-self-2
invariant_of-self-2 c =
    let may = c.if-not-may_open.ensures in
    let free = c.in-Some.ensures in
    let size : vec_len c.self.inside.editions ≡ length c.self.inside.editions.items = omega (arith, c.self.inside.editions.ok.0) in
    rw (
      c.in_ok-push.ensures.items,
      c.len.ensures,
      size,
    ) (open_kept _ c.in-Some.shelf c.args.edition c.self.invariant (rw (← c.self.view_is) at may)
    (rw (← c.self.view_is) at free.0))
