use Rattle.std.proofs.Common.{◌∙◌, arith}
use Rattle.by_trips.proofs.BeyondLemmas.{no_bags, one_bag_more}
use Rattle.by_trips.proofs.by_trips.empty_bags.Goals as goal

pub loop-k-init : goal.loop-k-init
loop-k-init c = no_bags c.in_ok-bags.bags.items c.in_ok-bags.ensures.items

pub loop-k-preserved : goal.loop-k-preserved
loop-k-preserved c =
    one_bag_more c.loop-k._k c.loop-k.bags.items c.push.new.self.items c.new.result c.in_ok-push.ensures.items c.new.ensures.empty c.loop-k.invariant

pub returns-clause-long : goal.returns-clause-long
returns-clause-long c =
    let over = c.loop-k-test.false in
    let within = c.loop-k.auto._k-end in
    c.loop-k.invariant.long ∙ omega (arith, over, within)

pub returns-clause-none : goal.returns-clause-none
returns-clause-none c = c.loop-k.invariant.none
