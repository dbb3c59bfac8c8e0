use Rattle.std.proofs.Common.{◌≡◌, ℕ, subst, arith}
use Rattle.scan_state.proofs.OriginLemmas.{AreNew, found_bag, new_none, new_more, new_found}
use Rattle.scan_state.proofs.origins.OriginsAtSource.new.Goals as goal

pub loop-stop-init : goal.loop-stop-init
loop-stop-init g c = new_none c.args.criterion.now c.in_ok-each.each.items c.in_ok-each.ensures.items

pub loop-stop-preserved : goal.loop-stop-preserved
loop-stop-preserved g c =
    new_more c.args.criterion.now c.loop-stop._stop c.loop-stop.each.items c.push.new.self.items c.empty.result c.loop-stop.invariant
    c.empty.ensures.criterion c.empty.ensures.none c.in_ok-push.ensures.items

pub returns : goal.returns
returns g c =
    let over = c.loop-stop-test.false in
    let within = c.loop-stop.auto._stop-end in
    let all : c.loop-stop._stop ≡ c.args.stops = omega (arith, over, within) in
    let are = subst (λ (n : ℕ). AreNew c.args.criterion.now n c.loop-stop.each.items) all c.loop-stop.invariant in
    record {
      under = (
        record { long = are.long; under = are.under },
        found_bag c.args.criterion.now (record { each = c.loop-stop.each }) are.under,
      );
      none = new_found c.args.criterion.now c.loop-stop._stop (record { each = c.loop-stop.each }) c.loop-stop.invariant;
    }
