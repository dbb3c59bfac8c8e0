use Rattle.std.proofs.Common.{◌≡◌, ◌++◌, ◌∷◌, ◌∙◌, [], length, ap, arith, refl, sym, take_all}
use Rattle.std.proofs.lemmas.List.{length-map}
use Rattle.timetable.proofs.LegalLemmas.{Contains-At}
use Rattle.scan_state.specs.Adding.{label_points}
use Rattle.scan_state.specs.Bound.{carried_on}
use Rattle.scan_state.proofs.RideLemmas.{carried_more}
use Rattle.scan_state.proofs.riding.ride_labels.Goals as goal

pub loop-k-init : goal.loop-k-init
loop-k-init g c = (omega arith, refl)

pub ride_label-requires-clause-label : goal.ride_label-requires-clause-label
ride_label-requires-clause-label g c =
    c.requires.labels c.label_at-label.result (Contains-At (label_points c.args.labels.now) c.loop-k.k c.label_at-label.result c.label_at-label.ensures)

pub loop-k-preserved : goal.loop-k-preserved
loop-k-preserved g c =
    let rules = g.C.Criterion.rules c.args.criterion.now in
    let values = c.args.bound.now in
    let rides = c.in_ok-count.ensures in
    let x = c.label_at-label.result in (
      rides.0,
      rides.1 ∙ ap (λ rs. rs ++ carried_on rules values (x ∷ [])) c.loop-k.invariant.1
          ∙ sym (carried_more rules values (label_points c.args.labels.now) c.loop-k.k x c.label_at-label.ensures),
    )

pub returns : goal.returns
returns g c =
    let labels = c.args.labels.now in
    let points = label_points labels in
    let long : length points ≡ length labels = length-map labels _ in
    let over = c.loop-k-test.false in
    c.truncate.ensures.items ∙ c.loop-k.invariant.1
    ∙ ap (carried_on (g.C.Criterion.rules c.args.criterion.now) c.args.bound.now) (take_all c.loop-k.k points (omega arith))
