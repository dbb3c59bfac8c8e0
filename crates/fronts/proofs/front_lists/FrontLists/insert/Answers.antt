use Rattle.std.proofs.Common.{refl}
use Rattle.fronts.proofs.Growth.{more_lists}
use Rattle.fronts.proofs.Mapped.{taken_if_ok}
use Rattle.fronts.proofs.front_lists.FrontLists.insert.Goals as goal

pub returns-clause-more : goal.returns-clause-more
returns-clause-more g c = more_lists g.C.Criterion.rules c.args.self.now _ c.insert.ensures.more refl c.insert.ensures.steps

pub returns-clause-taken : goal.returns-clause-taken
returns-clause-taken g c =
    taken_if_ok g.C.Criterion.rules c.args.boarding c.args.ridden.now c.args.self.now _ c.args.head c.insert.result
    c.insert.ensures.takes
