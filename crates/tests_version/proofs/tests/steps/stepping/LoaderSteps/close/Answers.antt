use Rattle.std.proofs.Common.{rules, ◌≡◌, length, get_or}
use Rattle.version_core.specs.declared.state.Shelf.{Shelf}
use Rattle.tests_version.proofs.Stepping.{got_at, closed_so}
use Rattle.tests_version.proofs.tests.steps.stepping.LoaderSteps.close.Goals as goal

pub invariant_of-self : goal.invariant_of-self
invariant_of-self c =
    let eight : length c.self.inside.memory.shelves ≡ 8 = search rules in
    let is : get_or c.self.inside.memory.shelves c.args.shelf Shelf.Free ≡ (Shelf.Open c.in-Open.version) = search rules in
    let at = got_at c.self.inside.memory.shelves c.args.shelf Shelf.Free (Shelf.Open c.in-Open.version) eight c.requires.1 is in
    (closed_so c.args.shelf c.in-Open.version c.self.inside.memory.current c.self.inside.memory.newest
    c.self.inside.memory.shelves c.self.inside.index.me c.self.invariant at c.if-version-self.true).1
    c.close.new.loader.me c.close.ensures.close
