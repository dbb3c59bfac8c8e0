use Rattle.std.proofs.Common.{◌∙◌, Contains, refl, subst, sym}
use Rattle.std.proofs.lemmas.List.{take_all}
use Rattle.std.proofs.lemmas.List.Elements.{Contains-get_or}
use Rattle.bags.specs.Bag.{criterion_of, points_of}
use Rattle.bags.specs.Dominance.{Inserted, IsBag, Stands}
use Rattle.criteria.specs.Laws.{Admits}
use Rattle.matrix_rows.specs.Merging.{TakesIn}
use Rattle.matrix_rows.proofs.Merges.{taken_more, takes_none}
use Rattle.matrix_rows.proofs.best.put_points.Goals as goal

pub loop-point-init : goal.loop-point-init
loop-point-init g c = record {
  same = refl;
  takes = takes_none (g.C.Criterion.rules (criterion_of c.args.best.now)) (points_of c.args.best.now);
}

pub insert-requires : goal.insert-requires
insert-requires g c =
    let points = c.args.points.now in
    let p = c.point-item.result in
    subst (λ k. Admits (g.C.Criterion.rules k) p.value) (sym c.loop-point.invariant.same)
    (c.requires p (subst (λ x. Contains points x) (sym c.point-item.is)
    (Contains-get_or points c.loop-point.point-index p c.loop-point-test.true)))

pub loop-point-preserved : goal.loop-point-preserved
loop-point-preserved g c =
    let points = c.args.points.now in
    let index = c.loop-point.point-index in
    let p = c.point-item.result in
    let best = c.loop-point.best in
    let was = c.args.best.now in
    let same = c.loop-point.invariant.same in
    let rules = g.C.Criterion.rules (criterion_of was) in
    let stands = c.in_ok-insert.field-0 in
    record {
      same = c.in_ok-insert.ensures.criterion ∙ same;
      takes = taken_more rules (g.met.C.Criterion.laws (criterion_of was)) points index p stands (points_of was) (points_of best)
          (points_of c.insert.new.self) c.loop-point-test.true c.point-item.is
          (subst (λ k. IsBag (g.C.Criterion.rules k) (points_of best)) same best.kept) c.requires
          (subst (λ k. Stands (g.C.Criterion.rules k) (points_of best) p stands) same c.in_ok-insert.ensures.stands)
          (subst (λ k. Inserted (g.C.Criterion.rules k) (points_of best) p stands (points_of c.insert.new.self)) same c.in_ok-insert.ensures.inserted)
          c.loop-point.invariant.takes;
    }

pub returns-clause-takes : goal.returns-clause-takes
returns-clause-takes g c =
    subst (λ ps. TakesIn (g.C.Criterion.rules (criterion_of c.args.best.now)) ps (points_of c.args.best.now) (points_of c.loop-point.best))
    (take_all c.loop-point.point-index c.args.points.now c.loop-point-test.false) c.loop-point.invariant.takes
