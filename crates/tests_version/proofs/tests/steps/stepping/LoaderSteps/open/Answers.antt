use Rattle.std.proofs.Common.{rules, ◌≡◌, ◌+◌, ◌*◌, ◌<◌, length, get_or}
use Rattle.version_core.specs.State.{most_versions}
use Rattle.version_core.specs.declared.state.Shelf.{Shelf}
use Rattle.std.specs.Arc.{arc_value}
use Rattle.shelf_steps.specs.Blocks.{laid}
use Rattle.shelf_steps.proofs.Editions.{laid_have}
use Rattle.tests_version.proofs.Stepping.{got_at, may_open_so, opened_so}
use Rattle.tests_version.proofs.tests.steps.stepping.LoaderSteps.open.Goals as goal

pub open-requires-clause-ready : goal.open-requires-clause-ready
open-requires-clause-ready c =
    let eight : length c.self.inside.memory.shelves ≡ 8 = search rules in
    let is : get_or c.self.inside.memory.shelves c.args.shelf Shelf.Free ≡ Shelf.Free = search rules in
    let at = got_at c.self.inside.memory.shelves c.args.shelf Shelf.Free Shelf.Free eight c.requires.1 is in
    let same : c.self.inside.memory.current ≡ c.self.inside.memory.newest = search rules in
    let left : c.self.inside.memory.newest < most_versions = search rules in
    may_open_so c.args.shelf c.self.inside.memory.current c.self.inside.memory.newest c.self.inside.memory.shelves
    (arc_value c.args.source.now.image) (laid c.in_ok-editions.editions.items (16 * c.args.shelf))
    c.self.inside.index.me c.gather.new.loader.me c.fill_block.new.loader.me
    c.self.invariant at same left (laid_have (c.self.inside.memory.newest + 1) (arc_value c.args.source.now.image)
    c.in_ok-editions.editions.items c.args.shelf c.in_ok-editions.ensures) c.gather.ensures.gather
    c.fill_block.ensures.block

pub invariant_of-self : goal.invariant_of-self
invariant_of-self c =
    let left : c.self.inside.memory.newest < most_versions = search rules in
    opened_so c.args.shelf c.self.inside.memory.current c.self.inside.memory.newest c.self.inside.memory.shelves
    (laid c.in_ok-editions.editions.items (16 * c.args.shelf)) c.self.inside.index.me c.gather.new.loader.me
    c.fill_block.new.loader.me c.open.new.loader.me
    c.self.invariant c.requires.1 left c.gather.ensures.gather c.fill_block.ensures.block c.open.ensures.open
