use Rattle.std.proofs.Common.{List, ℕ, sym, subst, get_or, arith}
use Rattle.lanes.proofs.SearchLemmas.{LeadsTo, leads_on, passes_to}
use Rattle.lanes.proofs.lane_lists.pass.Goals as goal

pub loop-index-smaller : goal.loop-index-smaller
loop-index-smaller c =
    (leads_on c.args.entries.now c.args.head c.args.time c.loop-index.passed.items c.loop-index.index c.index-entries-index.result
    c.index-entries-index-in-loop-index.result c.requires.lists c.loop-index.invariant c.loop-index-test.true (omega arith)).1

pub loop-index-preserved : goal.loop-index-preserved
loop-index-preserved c =
    subst (λ (bs : List ℕ). LeadsTo c.args.entries.now c.args.head c.args.time bs
    (get_or c.args.entries.now c.loop-index.index c.index-entries-index-in-loop-index.result).next) (sym c.in_ok-push.ensures.items)
    (leads_on c.args.entries.now c.args.head c.args.time c.loop-index.passed.items c.loop-index.index c.index-entries-index.result
    c.index-entries-index-in-loop-index.result c.requires.lists c.loop-index.invariant c.loop-index-test.true (omega arith)).0

pub returns : goal.returns
returns c = (
  c.loop-index.index,
  passes_to c.args.entries.now c.args.head c.args.time c.loop-index.passed.items c.loop-index.index c.index-entries-index.result c.loop-index.invariant
      c.loop-index-test.false,
)
