use Rattle.std.proofs.Common.{arith, length, refl, ◌-◌}
use Rattle.std.proofs.lemmas.Option.{slice_get_read}
use Rattle.version_core.proofs.Keeps.{held_known}
use Rattle.version_core.proofs.Runs.{edition_of-index}
use Rattle.version_core.proofs.machine.Core.edition.Goals as goal

pub overflow_sub-version : goal.overflow_sub-version
overflow_sub-version c = (held_known _ c.requires.0 c.requires.1 c.args.version c.self.invariant (rw (← c.self.view_is) at c.requires.2)).1

pub index-requires : goal.index-requires
index-requires c = let known = held_known _ c.requires.0 c.requires.1 c.args.version c.self.invariant (rw (← c.self.view_is) at c.requires.2) in omega arith

pub returns : goal.returns
returns c =
    let known = held_known _ c.requires.0 c.requires.1 c.args.version c.self.invariant (rw (← c.self.view_is) at c.requires.2) in
    rw (← c.self.view_is) (edition_of-index _ c.args.version _ known.1
    (slice_get_read c.self.inside.editions.items (length c.self.inside.editions.items) (c.args.version - 1) _ refl
    (omega arith) c.index.ensures))
