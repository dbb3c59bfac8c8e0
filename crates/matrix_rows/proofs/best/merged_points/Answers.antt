use Rattle.std.proofs.Common.{◌∙◌, Contains, arith, subst, sym}
use Rattle.std.proofs.lemmas.List.{take_all}
use Rattle.std.proofs.lemmas.List.Elements.{Contains-get_or}
use Rattle.std.proofs.lemmas.Result.{IfOk-weaker}
use Rattle.criteria.specs.Laws.{Admits}
use Rattle.bags.specs.Bag.{points_of}
use Rattle.bags.specs.Dominance.{IsBag}
use Rattle.profile_scan.specs.Everywhere.{asked_to_any, listed_to_any}
use Rattle.scan_state.specs.SetQuery.{CanScan}
use Rattle.profile_scan.proofs.OrderLemmas.{listed_bag}
use Rattle.matrix_rows.specs.Merging.{TakesIn}
use Rattle.matrix_rows.proofs.Answering.{answer_at}
use Rattle.matrix_rows.proofs.Merges.{AreMerged, answer_admits, merged_is_answer, merged_more, none_merged}
use Rattle.matrix_rows.proofs.best.merged_points.Goals as goal

pub loop-stop-init : goal.loop-stop-init
loop-stop-init g c = record {
  same = c.new-best.ensures.criterion;
  merged = none_merged (g.C.Criterion.rules c.args.criterion.now) (listed_to_any c.args.profiles.now) (points_of c.new-best.result) c.new-best.ensures.empty;
}

pub points-requires : goal.points-requires
points-requires g c =
    let stops = c.args.stops.now in
    let within = c.requires.within _ (Contains-get_or stops c.loop-stop.stop-index 0 c.loop-stop-test.true) in
    let long = c.requires.answered.long in
    omega (arith, long, within)

pub put_points-requires : goal.put_points-requires
put_points-requires g c = λ p h.
    let stops = c.args.stops.now in
    let t = c.args.image.now.timetable in
    let d = asked_to_any c.args.profiles.now in
    let criterion = c.args.criterion.now in
    let can : CanScan c.args.image.now.timetable (asked_to_any c.args.profiles.now) =
    record { legal = c.stops.ensures.kept.legal; limits = c.stops.ensures.kept.limits; in_time = c.requires.asked.small.2 } in
    let within = c.requires.within _ (Contains-get_or stops c.loop-stop.stop-index 0 c.loop-stop-test.true) in
    let answer = answer_at g.C.Criterion.rules t c.args.profiles.now criterion _ c.requires.answered c.requires.same within in
    subst (λ k. Admits (g.C.Criterion.rules k) p.value) (sym c.loop-stop.invariant.same)
    (answer_admits (g.C.Criterion.rules criterion) (g.met.C.Criterion.laws criterion) t d can _ _ answer p
    (subst (λ ps. Contains ps p) c.points.ensures h))

pub loop-stop-preserved : goal.loop-stop-preserved
loop-stop-preserved g c =
    let stops = c.args.stops.now in
    let t = c.args.image.now.timetable in
    let profiles = c.args.profiles.now in
    let d = asked_to_any profiles in
    let criterion = c.args.criterion.now in
    let rules = g.C.Criterion.rules criterion in
    let can : CanScan c.args.image.now.timetable (asked_to_any c.args.profiles.now) =
    record { legal = c.stops.ensures.kept.legal; limits = c.stops.ensures.kept.limits; in_time = c.requires.asked.small.2 } in
    let same = c.loop-stop.invariant.same in
    record {
      same = c.in_ok-put_points.ensures.under ∙ same;
      merged = merged_more rules (listed_to_any profiles) stops c.loop-stop.stop-index 0 c.points.result.now (points_of c.loop-stop.best)
          (points_of c.put_points.new.best) c.loop-stop-test.true c.points.ensures
          (λ stop h. answer_admits rules (g.met.C.Criterion.laws criterion) t d can stop (listed_to_any profiles stop)
          (answer_at g.C.Criterion.rules t profiles criterion stop c.requires.answered c.requires.same (c.requires.within stop h)))
          (subst (λ k. TakesIn (g.C.Criterion.rules k) c.points.result.now (points_of c.loop-stop.best) (points_of c.put_points.new.best)) same
          c.in_ok-put_points.ensures.takes)
          c.loop-stop.invariant.merged;
    }

pub returns : goal.returns
returns g c =
    let stops = c.args.stops.now in
    let t = c.args.image.now.timetable in
    let profiles = c.args.profiles.now in
    let d = asked_to_any profiles in
    let criterion = c.args.criterion.now in
    let rules = g.C.Criterion.rules criterion in
    let laws = g.met.C.Criterion.laws criterion in
    let best = c.loop-stop.best in
    let can : CanScan c.args.image.now.timetable (asked_to_any c.args.profiles.now) =
    record { legal = c.stops.ensures.kept.legal; limits = c.stops.ensures.kept.limits; in_time = c.requires.asked.small.2 } in
    let merged = subst (λ ss. AreMerged rules (listed_to_any profiles) ss (points_of best))
    (take_all c.loop-stop.stop-index stops c.loop-stop-test.false) c.loop-stop.invariant.merged in
    let bag = subst (λ k. IsBag (g.C.Criterion.rules k) (points_of best)) c.loop-stop.invariant.same best.kept in
    IfOk-weaker c.in_order.result _ _
    (λ points listed.
    merged_is_answer rules laws t d can stops (listed_to_any profiles) (points_of best) points.items
    (λ stop h. answer_at g.C.Criterion.rules t profiles criterion stop c.requires.answered c.requires.same (c.requires.within stop h))
    merged (listed_bag rules laws (points_of best) points.items bag listed.ordered listed.only) listed.ordered
    listed.only listed.each)
    c.in_order.ensures
