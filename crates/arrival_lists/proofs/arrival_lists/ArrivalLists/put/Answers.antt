use Rattle.std.proofs.Common.{arith}
use Rattle.arrival_lists.specs.declared.arrival_lists.ArrivalLists.{ArrivalLists}
use Rattle.arrival_lists.proofs.Insertions.{is_put}
use Rattle.arrival_lists.proofs.arrival_lists.ArrivalLists.put.Goals as goal

pub returns-clause-put : goal.returns-clause-put
returns-clause-put c =
    let new : ArrivalLists = record { entries = c.append.new.items; passed = c.args.self.now.passed } in
    let head_is = c.in_ok-head.ensures in
    is_put c.args.self.now new c.args.entry c.requires c.in_ok-append.ensures.added c.in_ok-head.head (omega (arith, head_is))
