use Rattle.std.proofs.Common.{◌≡◌, ℕ, inl, inr, subst, arith}
use Rattle.timetable.proofs.LegalLemmas.{Contains-At}
use Rattle.criteria.specs.Laws.{Admits}
use Rattle.bags.specs.Bag.{points_of}
use Rattle.scan_state.specs.Bound.{TakesPoints}
use Rattle.scan_state.proofs.Offers.{bag_under}
use Rattle.scan_state.proofs.BoundLemmas.{points_none, points_more}
use Rattle.scan_state.proofs.bound.take_points.Goals as goal

pub loop-index-init : goal.loop-index-init
loop-index-init g c = points_none (g.C.Criterion.rules c.args.criterion.now) (points_of c.args.found.now) c.args.indices.start c.args.values.now.items

pub take_value-requires-clause-values : goal.take_value-requires-clause-values
take_value-requires-clause-values g c b h =
    let rules = g.C.Criterion.rules c.args.criterion.now in
    let bag = c.args.found.now in
    let found = bag_under g.C.Criterion.rules bag.criterion c.args.criterion.now (points_of bag) c.requires.found bag.kept in
    elim (c.loop-index.invariant.only b h) [
      | inl was ↦ c.requires.values b was
      | inr (k, p, low, high, at, worth) ↦ subst (Admits rules) worth (found.admitted p (Contains-At (points_of c.args.found.now) k p at))
    ]

pub take_value-requires-clause-value : goal.take_value-requires-clause-value
take_value-requires-clause-value g c =
    let bag = c.args.found.now in
    let found = bag_under g.C.Criterion.rules bag.criterion c.args.criterion.now (points_of bag) c.requires.found bag.kept in
    found.admitted c.point-point.result (Contains-At (points_of c.args.found.now) c.loop-index.index c.point-point.result c.point-point.ensures)

pub loop-index-preserved : goal.loop-index-preserved
loop-index-preserved g c =
    let bag = c.args.found.now in
    let found = bag_under g.C.Criterion.rules bag.criterion c.args.criterion.now (points_of bag) c.requires.found bag.kept in
    points_more (g.C.Criterion.rules c.args.criterion.now) (points_of bag) c.args.indices.start c.loop-index.index c.point-point.result
    c.args.values.now.items c.loop-index.values.items c.take_value.new.values.items
    found.admitted c.point-point.ensures (omega arith) c.loop-index.invariant c.in_ok-take_value.ensures

pub returns : goal.returns
returns g c =
    let over = c.loop-index-test.false in
    let within = c.loop-index.auto.index-end c.requires.order in
    let at_end : c.loop-index.index ≡ c.args.indices.end = omega arith in
    let rules = g.C.Criterion.rules c.args.criterion.now in
    let points = points_of c.args.found.now in
    subst (λ (n : ℕ). TakesPoints rules points c.args.indices.start n c.args.values.now.items c.loop-index.values.items) at_end c.loop-index.invariant
