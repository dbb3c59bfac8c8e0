use Rattle.std.proofs.Common.{◌-◌, arith, sym, ◌∙◌, inl, inr}
use Rattle.scan_state.specs.Points.{Before}
use Rattle.profile_scan.proofs.OrderLemmas.{before_by_test, not_before_by_test, before_here, after_here}
use Rattle.profile_scan.proofs.found.index_for.Goals as goal

pub loop-index-preserved : goal.loop-index-preserved
loop-index-preserved g c =
    let rules = g.C.Criterion.rules c.args.criterion.now in
    let last = c.index-points-index.result in
    let inv = c.loop-index.invariant in
    record {
      within = omega arith;
      after = after_here rules c.args.points.now c.args.point.now last c.loop-index.index (omega arith) inv.within c.index-points-index.is
          (before_by_test rules c.args.point.now last (sym c.comes_first.ensures ∙ c.if-not-comes_first.false)) inv.after;
    }

pub returns-then-not-comes_first : goal.returns-then-not-comes_first
returns-then-not-comes_first g c =
    let rules = g.C.Criterion.rules c.args.criterion.now in
    let last = c.index-points-index.result in
    let inv = c.loop-index.invariant in
    let not = not_before_by_test rules c.args.point.now last (sym c.comes_first.ensures ∙ c.if-not-comes_first.true) in
    let is : Before rules last c.args.point.now =
    elim (c.requires.comparable last (
      c.loop-index.index - 1,
      omega arith,
      sym c.index-points-index.is,
    )) [ inl first ↦ first | inr second ↦ absurd (not second) ] in
    record {
      within = inv.within;
      before = before_here rules (g.met.C.Criterion.laws c.args.criterion.now) c.args.points.now c.args.point.now last
          c.loop-index.index c.requires.ordered c.requires.admitted c.requires.value (omega arith) inv.within
          c.index-points-index.is is;
      after = inv.after;
    }

pub returns : goal.returns
returns g c =
    let inv = c.loop-index.invariant in
    let over = c.loop-index-test.false in
    record {
      within = omega arith;
      before = λ k d low. absurd (omega arith);
      after = λ k d low. inv.after k d (omega arith);
    }
