use Rattle.std.proofs.Common.{◌≡◌, ◌∙◌, ℕ, length, subst, sym, ap, refl, Some, slice_get, arith}
use Rattle.std.proofs.lemmas.Option.{slice_get-get_or}
use Rattle.bags.specs.Bag.{criterion_of, points_of}
use Rattle.bags.specs.Dominance.{IsBag, Inserted, Stands}
use Rattle.station_answers.specs.Merging.{MergesFirst}
use Rattle.station_answers.proofs.MergeLemmas.{merges_none, merges_one}
use Rattle.station_answers.proofs.merging.merge_points.Goals as goal

pub loop-index-init : goal.loop-index-init
loop-index-init g c = record {
  same = refl;
  merges = merges_none (g.C.Criterion.rules (criterion_of c.args.best.now)) c.args.points.now c.args.number (points_of c.args.best.now)
      c.args.origins.now.items;
}

pub loop-index-preserved : goal.loop-index-preserved
loop-index-preserved g c =
    let points = c.args.points.now in
    let p = c.index-points-index.result in
    let best = c.loop-index.best in
    let same = c.loop-index.invariant.same in
    let at : slice_get points c.loop-index.index ≡ Some p =
    slice_get-get_or points c.loop-index.index p (omega (arith, c.loop-index-test.true)) ∙ ap Some (sym c.index-points-index.is) in
    record {
      same = c.in_ok-insert.ensures.criterion ∙ same;
      merges = merges_one (g.C.Criterion.rules (criterion_of c.args.best.now)) (g.met.C.Criterion.laws (criterion_of c.args.best.now)) points c.args.number
          c.loop-index.index p c.len-tag.result c.in_ok-insert.field-0 (points_of c.args.best.now) c.args.origins.now.items (points_of best)
          c.loop-index.origins.items (points_of c.insert.new.self) c.push.new.self.items
          (subst (λ (k : g.row.C.Denot). IsBag (g.C.Criterion.rules k) (points_of best)) same best.kept) at c.requires (c.len-tag.ensures ∙
          c.loop-index.origins.ok.0) c.in_ok-push.ensures.items
          (subst (λ (k : g.row.C.Denot). Stands (g.C.Criterion.rules k) (points_of best) (record {
            departure = p.departure;
            value = p.value;
            tag =
                c.len-tag.result;
          })
          c.in_ok-insert.field-0) same c.in_ok-insert.ensures.stands)
          (subst (λ (k : g.row.C.Denot). Inserted (g.C.Criterion.rules k) (points_of best) (record {
            departure = p.departure;
            value = p.value;
            tag =
                c.len-tag.result;
          })
          c.in_ok-insert.field-0 (points_of c.insert.new.self)) same c.in_ok-insert.ensures.inserted)
          c.loop-index.invariant.merges;
    }

pub returns-clause-merges : goal.returns-clause-merges
returns-clause-merges g c =
    let over = c.loop-index-test.false in
    let within = c.loop-index.auto.index-end in
    let at_end : c.loop-index.index ≡ length c.args.points.now = omega (arith, over, within) in
    subst (λ (n : ℕ). MergesFirst (g.C.Criterion.rules (criterion_of c.args.best.now)) c.args.points.now c.args.number n (points_of c.args.best.now)
    c.args.origins.now.items (points_of c.loop-index.best) c.loop-index.origins.items) at_end c.loop-index.invariant.merges
