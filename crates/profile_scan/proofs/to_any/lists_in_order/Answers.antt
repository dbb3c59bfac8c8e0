use Rattle.std.proofs.Common.{◌≡◌, ◌∙◌, length, slice_get, Some, refl, arith}
use Rattle.std.proofs.lemmas.Option.{slice_get_read}
use Rattle.scan_state.specs.Origins.{found_from}
use Rattle.scan_state.proofs.OriginLemmas.{found_past}
use Rattle.profile_scan.proofs.EverywhereLemmas.{none_listed_to, one_listed_to, all_listed_to, in_order_from}
use Rattle.profile_scan.proofs.to_any.lists_in_order.Given as given
use Rattle.profile_scan.proofs.to_any.lists_in_order.Goals.{After-index-origin}
use Rattle.profile_scan.proofs.to_any.lists_in_order.Goals as goal

pub loop-stop-init : goal.loop-stop-init
loop-stop-init g c = none_listed_to (g.C.Criterion.rules c.args.criterion.now)
    (found_from c.args.origins.now) c.in_ok-lists.lists.items c.in_ok-lists.ensures.items

-- the points found from a stop are there
at_stop : (g : given.Over) (c : goal.After-index-origin g) → slice_get c.args.origins.now.each.items c.loop-stop.stop ≡ Some c.index-origin.result.now
at_stop g c =
    let test = c.loop-stop-test.true in
    let long = c.args.origins.now.each.ok.0 in
    slice_get_read c.args.origins.now.each.items (length c.args.origins.now.each.items) c.loop-stop.stop c.index-origin.result.now refl
    (omega (arith, test, long)) c.index-origin.ensures

pub in_order-requires : goal.in_order-requires
in_order-requires g c = c.requires c.loop-stop.stop c.index-origin.result.now (at_stop g (goal.at.in_order-requires g c).After-index-origin)

pub loop-stop-preserved : goal.loop-stop-preserved
loop-stop-preserved g c =
    let rules = g.C.Criterion.rules c.args.criterion.now in
    let origins = c.args.origins.now in
    one_listed_to rules (found_from origins) c.loop-stop.stop c.loop-stop.lists.items c.push.new.self.items c.in_ok-points.points c.loop-stop.invariant
    (in_order_from rules origins c.loop-stop.stop c.index-origin.result.now c.in_ok-points.points.items
    (at_stop g (goal.at.loop-stop-preserved g c).After-index-origin)
    c.in_ok-points.ensures)
    c.in_ok-push.ensures.items

pub returns : goal.returns
returns g c =
    let over = c.loop-stop-test.false in
    let within = c.loop-stop.auto.stop-end in
    let long = c.args.origins.now.each.ok.0 in
    let all : c.loop-stop.stop ≡ length c.args.origins.now.each.items = omega (arith, over, within, long) in
    record {
      long = c.loop-stop.invariant.long ∙ all;
      lists = all_listed_to (g.C.Criterion.rules c.args.criterion.now) (found_from c.args.origins.now) c.loop-stop.stop c.loop-stop.lists.items
          c.loop-stop.invariant (λ stop past. found_past c.args.origins.now stop (omega (arith, over, long, past)));
    }
