use Rattle.std.proofs.Common.{rules, ◌≡◌, length, get_or}
use Rattle.version_core.specs.declared.state.Shelf.{Shelf}
use Rattle.tests_version.proofs.Stepping.{got_at, may_collect_so, freed_so}
use Rattle.tests_version.proofs.tests.steps.stepping.LoaderSteps.collect.Goals as goal

pub try_shelf-requires-clause-numbers : goal.try_shelf-requires-clause-numbers
try_shelf-requires-clause-numbers c =
    let eight : length c.self.inside.memory.shelves ≡ 8 = search rules in
    let is : get_or c.self.inside.memory.shelves c.args.shelf Shelf.Free ≡ (Shelf.Closing c.in-Closing.version) = search rules in
    let at = got_at c.self.inside.memory.shelves c.args.shelf Shelf.Free (Shelf.Closing c.in-Closing.version) eight c.requires.1 is in (
      c.requires.1,
      (may_collect_so c.args.shelf c.in-Closing.version c.self.inside.memory.current
          c.self.inside.memory.newest c.self.inside.memory.shelves c.self.inside.index.me c.self.invariant at).0,
    )

pub try_shelf-requires-clause-closing : goal.try_shelf-requires-clause-closing
try_shelf-requires-clause-closing c =
    let eight : length c.self.inside.memory.shelves ≡ 8 = search rules in
    let is : get_or c.self.inside.memory.shelves c.args.shelf Shelf.Free ≡ (Shelf.Closing c.in-Closing.version) = search rules in
    let at = got_at c.self.inside.memory.shelves c.args.shelf Shelf.Free (Shelf.Closing c.in-Closing.version) eight c.requires.1 is in
    (may_collect_so c.args.shelf c.in-Closing.version c.self.inside.memory.current c.self.inside.memory.newest
    c.self.inside.memory.shelves c.self.inside.index.me c.self.invariant at).1

pub invariant_of-self-in-None : goal.invariant_of-self-in-None
invariant_of-self-in-None c =
    let eight : length c.self.inside.memory.shelves ≡ 8 = search rules in
    let is : get_or c.self.inside.memory.shelves c.args.shelf Shelf.Free ≡ (Shelf.Closing c.in-Closing.version) = search rules in
    let at = got_at c.self.inside.memory.shelves c.args.shelf Shelf.Free (Shelf.Closing c.in-Closing.version) eight c.requires.1 is in (
      freed_so c.args.shelf c.self.inside.memory.current c.self.inside.memory.newest c.self.inside.memory.shelves
          c.self.inside.index.me.0 c.try_shelf.new.loader.me.0 (Shelf.Closing c.in-Closing.version) c.self.invariant.0 at
          c.in-None.ensures.freed,
      c.try_shelf.ensures.empty,
    )
