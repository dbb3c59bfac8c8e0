use Rattle.std.proofs.Common.{List, subst}
use Rattle.lanes.specs.LaneLists.{ArePassed}
use Rattle.lanes.specs.declared.lane_lists.LaneEntry.{LaneEntry}
use Rattle.lanes.proofs.JoinLemmas.{joined_first, may_join, joined_next}
use Rattle.lanes.proofs.lane_lists.join.Goals as goal

pub loop-from-init : goal.loop-from-init
loop-from-init c =
    joined_first c.args.entries.now.items c.args.head c.args.time c.args.index c.pass.new.passed.items c.requires
    (subst (λ (es : List LaneEntry). ArePassed es c.args.head c.args.time c.pass.new.passed.items) c.deref.ensures.value c.in_ok-pass.ensures)

pub join_one-requires : goal.join_one-requires
join_one-requires c =
    let inv = c.loop-from.invariant in
    may_join c.args.entries.now.items c.requires.has_head.lists c.args.head c.args.index c.loop-from.entries.items c.loop-from.passed.items
    c.pop.new.self.items c.in-Some.from c.loop-from.new inv.0 inv.1 c.in-Some.ensures.items

pub loop-from-preserved : goal.loop-from-preserved
loop-from-preserved c =
    let inv = c.loop-from.invariant in (
      c.in-Some.from,
      joined_next c.args.entries.now.items c.requires.has_head.lists c.args.head c.args.index c.loop-from.entries.items c.loop-from.passed.items
          c.pop.new.self.items c.in-Some.from c.loop-from.new inv.0 inv.1 c.in-Some.ensures.items c.join_one.new.entries.items c.in_ok-new.new
          c.in_ok-new.ensures,
    )
