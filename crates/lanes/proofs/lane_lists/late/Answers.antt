use Rattle.std.proofs.Common.{◌++◌, ◌∷◌, [], arith}
use Rattle.lanes.proofs.SearchLemmas.{leads_first, leads_on, passes_to}
use Rattle.lanes.proofs.lane_lists.late.Goals as goal

pub loop-index-init : goal.loop-index-init
loop-index-init c = ([], leads_first c.args.entries.now c.args.head c.args.time c.requires)

pub loop-index-smaller : goal.loop-index-smaller
loop-index-smaller c =
    let inv = c.loop-index.invariant in
    (leads_on c.args.entries.now c.args.head c.args.time inv.0 c.loop-index.index c.index-entries-index.result c.index-entries-index-in-loop-index.result
    c.requires.lists inv.1 c.loop-index-test.true (omega arith)).1

pub loop-index-preserved : goal.loop-index-preserved
loop-index-preserved c =
    let inv = c.loop-index.invariant in (
      inv.0 ++ c.loop-index.index ∷ [],
      (leads_on c.args.entries.now c.args.head c.args.time inv.0 c.loop-index.index c.index-entries-index.result c.index-entries-index-in-loop-index.result
          c.requires.lists inv.1 c.loop-index-test.true (omega arith)).0,
    )

pub returns : goal.returns
returns c =
    let inv = c.loop-index.invariant in
    (inv.0, passes_to c.args.entries.now c.args.head c.args.time inv.0 c.loop-index.index c.index-entries-index.result inv.1 c.loop-index-test.false)
