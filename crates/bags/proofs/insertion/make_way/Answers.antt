use Rattle.std.proofs.Common.{sym, subst}
use Rattle.bags.specs.Arrangement.{AreFalling}
use Rattle.bags.proofs.Entries.{falling_in, admitted_in}
use Rattle.bags.proofs.Insertions.{points_left}
use Rattle.bags.proofs.OneInsertion.{way_made}
use Rattle.bags.proofs.insertion.make_way.Goals as goal

pub count_after-first-requires : goal.count_after-first-requires
count_after-first-requires g c = subst AreFalling (sym c.deref.ensures.value)
    (falling_in (g.C.Criterion.rules c.args.criterion.now) c.args.entries.now.items c.requires.arranged.listed)

pub drop_dominated-requires-clause-admitted : goal.drop_dominated-requires-clause-admitted
drop_dominated-requires-clause-admitted g c = admitted_in (g.C.Criterion.rules c.args.criterion.now) c.args.entries.now.items c.requires.arranged.bag

pub returns-clause-left : goal.returns-clause-left
returns-clause-left g c = points_left (g.C.Criterion.rules c.args.criterion.now) c.args.point.now
    c.args.entries.now.items c.drop_dominated.new.entries.items c.drop_dominated.ensures.items

pub returns-clause-ready : goal.returns-clause-ready
returns-clause-ready g c =
    way_made (g.C.Criterion.rules c.args.criterion.now) c.args.point.now c.args.entries.now.items c.deref.result.now
    c.drop_dominated.new.entries.items c.count_after-first.result c.requires.arranged c.requires.admitted c.requires.stands
    c.deref.ensures.value c.count_after-first.ensures c.drop_dominated.ensures.items
