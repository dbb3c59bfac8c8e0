use Rattle.std.proofs.Common.{◌≡◌, true, false, inl, arith, get_or, sym, ◌∙◌, subst}
use Rattle.bags.specs.Dominance.{comes_before}
use Rattle.bags.specs.declared.entry.BagEntry.{BagEntry}
use Rattle.bags.proofs.Indices.{after_on, before_last}
use Rattle.bags.proofs.Order.{precedes_before}
use Rattle.bags.proofs.insertion.index_of.Goals as goal

pub loop-index-preserved : goal.loop-index-preserved
loop-index-preserved g c =
    let inv = c.loop-index.invariant in
    let rules = g.C.Criterion.rules c.args.criterion.now in
    record {
      first = omega arith;
      within = omega arith;
      after = after_on rules c.args.entries.now c.args.point.now c.index-entries-index.result c.loop-index.index
          (omega arith) inv.within c.index-entries-index.is
          (subst (λ (e : BagEntry g.row.C-V.Denot). comes_before rules c.args.point.now e.point ≡ true)
          (sym c.index-entries-index.is) (sym c.comes_before.ensures ∙ c.if-comes_before.true)) inv.after;
    }

pub returns-else-comes_before-clause-before : goal.returns-else-comes_before-clause-before
returns-else-comes_before-clause-before g c =
    let rules = g.C.Criterion.rules c.args.criterion.now in
    before_last rules (g.met.C.Criterion.laws c.args.criterion.now) c.args.entries.now c.args.point.now
    c.index-entries-index.result c.args.first c.loop-index.index c.requires.ready (omega arith) c.loop-index.invariant.within
    c.index-entries-index.is
    (subst (λ (e : BagEntry g.row.C-V.Denot). comes_before rules c.args.point.now e.point ≡ false)
    (sym c.index-entries-index.is) (sym c.comes_before.ensures ∙ c.if-comes_before.false))

pub returns-after-loop-index-clause-before : goal.returns-after-loop-index-clause-before
returns-after-loop-index-clause-before g c k d lt =
    precedes_before (g.C.Criterion.rules c.args.criterion.now) (get_or c.args.entries.now k d).point c.args.point.now
    (inl (c.requires.ready.later.later k d (omega arith)))
