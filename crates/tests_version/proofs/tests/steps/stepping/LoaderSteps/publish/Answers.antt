use Rattle.std.proofs.Common.{rules, ◌≡◌, length, get_or}
use Rattle.version_core.specs.declared.state.Shelf.{Shelf}
use Rattle.tests_version.proofs.Stepping.{got_at, published_so}
use Rattle.tests_version.proofs.tests.steps.stepping.LoaderSteps.publish.Goals as goal

pub publish-requires-clause-numbers : goal.publish-requires-clause-numbers
publish-requires-clause-numbers c =
    let eight : length c.self.inside.memory.shelves ≡ 8 = search rules in
    let is : get_or c.self.inside.memory.shelves c.args.shelf Shelf.Free ≡ (Shelf.Open c.in-Open.version) = search rules in
    let at = got_at c.self.inside.memory.shelves c.args.shelf Shelf.Free (Shelf.Open c.in-Open.version) eight c.requires.1 is in (
      c.requires.1,
      (published_so c.args.shelf c.in-Open.version c.self.inside.memory.current c.self.inside.memory.newest
          c.self.inside.memory.shelves c.self.inside.index.me c.self.invariant at c.if-self-version.true).0,
    )

pub publish-requires-clause-ready : goal.publish-requires-clause-ready
publish-requires-clause-ready c =
    let eight : length c.self.inside.memory.shelves ≡ 8 = search rules in
    let is : get_or c.self.inside.memory.shelves c.args.shelf Shelf.Free ≡ (Shelf.Open c.in-Open.version) = search rules in
    let at = got_at c.self.inside.memory.shelves c.args.shelf Shelf.Free (Shelf.Open c.in-Open.version) eight c.requires.1 is in
    (published_so c.args.shelf c.in-Open.version c.self.inside.memory.current c.self.inside.memory.newest
    c.self.inside.memory.shelves c.self.inside.index.me c.self.invariant at c.if-self-version.true).1
