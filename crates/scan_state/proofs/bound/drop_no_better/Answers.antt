use Rattle.std.proofs.Common.{not, sym, ◌∙◌, ap, arith}
use Rattle.std.proofs.lemmas.List.Filters.{FiltersInPlace-more_set, FiltersInPlace-more_no}
use Rattle.bags.proofs.Lists.{is_left}
use Rattle.scan_state.proofs.bound.drop_no_better.Goals as goal
use Rattle.scan_state.proofs.bound.drop_no_better.Goals.{then-not-no_worse, else-not-no_worse}

pub no_worse-requires-clause-other : goal.no_worse-requires-clause-other
no_worse-requires-clause-other g c = c.requires.values c.index.result.now (is_left c.loop-i.invariant c.index.result.now (omega arith) c.index.ensures)

pub loop-i-preserved : goal.loop-i-preserved
loop-i-preserved g c =
    elim c.if-not-no_worse.branch [
      | then-not-no_worse w ↦ rw (w.values-is, w.kept-is)
          (FiltersInPlace-more_set c.loop-i.invariant (omega arith) (ap not (sym c.no_worse.ensures ∙ w.if-not-no_worse.true)) c.index.ensures)
      | else-not-no_worse w ↦ rw (w.values-is, w.kept-is)
          (FiltersInPlace-more_no c.loop-i.invariant (omega arith) (ap not (sym c.no_worse.ensures ∙ w.if-not-no_worse.false)) c.index.ensures)
    ]
