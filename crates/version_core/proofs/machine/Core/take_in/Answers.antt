use Rattle.std.proofs.Common.{arith, ◌≡◌, length, vec_len}
use Rattle.std.proofs.lemmas.Option.{slice_get_within}
use Rattle.version_core.proofs.Keeps.{settled_small, join_kept}
use Rattle.version_core.proofs.machine.Core.take_in.Goals as goal

pub offset_bounds-self-inside-worker : goal.offset_bounds-self-inside-worker
offset_bounds-self-inside-worker c = let small = settled_small _ c.args.worker c.self.invariant (rw (← c.self.view_is) at c.requires.settled) in omega arith

pub bounds-self-inside-worker : goal.bounds-self-inside-worker
bounds-self-inside-worker c = settled_small _ c.args.worker c.self.invariant (rw (← c.self.view_is) at c.requires.settled)

pub remove-requires : goal.remove-requires
remove-requires c =
    let size : vec_len c.self.inside.notices ≡ length c.self.inside.notices.items = omega (arith, c.self.inside.notices.ok.0) in
    let within = slice_get_within c.self.inside.notices.items c.args.index c.args.version (rw (← c.self.view_is) at c.requires.there) in
    omega arith

pub offset_bounds-self-inside-worker-2 : goal.offset_bounds-self-inside-worker-2
offset_bounds-self-inside-worker-2 c = let small = settled_small _ c.args.worker c.self.invariant (rw (← c.self.view_is) at c.requires.settled) in omega arith

pub bounds-self-inside-worker-2 : goal.bounds-self-inside-worker-2
bounds-self-inside-worker-2 c = settled_small _ c.args.worker c.self.invariant (rw (← c.self.view_is) at c.requires.settled)

pub invariant_of-self : goal.invariant_of-self
invariant_of-self c =
    rw (c.remove.ensures.items, c.greater-seen.ensures)
    (join_kept _ c.args.worker c.args.version c.args.index c.self.invariant (rw (← c.self.view_is) at c.requires.settled) (rw
    (← c.self.view_is) at c.requires.there))
