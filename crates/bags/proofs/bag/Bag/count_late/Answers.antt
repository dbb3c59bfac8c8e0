use Rattle.std.proofs.Common.{sym, subst}
use Rattle.bags.specs.Bag.{criterion_of}
use Rattle.bags.specs.Arrangement.{AreFalling}
use Rattle.bags.proofs.Entries.{falling_in}
use Rattle.bags.proofs.bag.Bag.count_late.Goals as goal

pub count_late-requires : goal.count_late-requires
count_late-requires g c = subst AreFalling (sym c.deref.ensures.value)
    (falling_in (g.C.Criterion.rules (criterion_of c.args.self.now)) c.args.self.now.entries.items c.args.self.now.listed)
