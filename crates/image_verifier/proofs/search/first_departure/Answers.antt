use Rattle.std.proofs.Common.{◌≡◌, ℕ, ◌+◌, ◌-◌, ◌/◌, ◌<◌, ◌≤◌, List, length, ap, ◌∙◌, sym, subst, arith}
use Rattle.timetable.specs.Journeys.{connection_at}
use Rattle.image_layout.specs.Image.{ImageValue}
use Rattle.image_verifier.proofs.SearchLemmas.{IsHalving, goes_on_above, goes_on_below, departs_before, departs_after}
use Rattle.image_verifier.proofs.search.first_departure.Goals as goal

pub halve-preserved-then-read-time : goal.halve-preserved-then-read-time
halve-preserved-then-read-time c =
    let t = c.args.departures.now.image.now.timetable in
    let middle = c.halve.low + (c.halve.high - c.halve.low) / 2 in
    let here : c.read.result ≡ (connection_at t middle).dep =
    c.read.ensures.departure ∙ ap (λ (v : ImageValue). (connection_at v.timetable middle).dep)
    c.halve.invariant.same in
    let within : middle < length t.connections = omega (arith, c.halve-test.true, c.halve.invariant.within) in
    let early : (connection_at t middle).dep < c.args.time = omega (arith, here, c.if-read-time.true) in
    let less : c.halve.high - (middle + 1) ≤ (c.halve.high - c.halve.low) / 2 = omega (arith, c.halve-test.true) in
    record {
      same = c.read.ensures.same ∙ c.halve.invariant.same;
      apart = omega (arith, c.halve-test.true);
      within = c.halve.invariant.within;
      before = λ k below. departs_before t middle c.args.time k c.args.departures.now.legal within early below;
      after = c.halve.invariant.after;
      halving =
          subst (λ (reads : List ℕ). IsHalving (length t.connections) (middle + 1) c.halve.high c.args.departures.now.reads reads) (sym c.read.ensures.noted)
          (goes_on_above (length t.connections) c.halve.low c.halve.high middle c.args.departures.now.reads
          c.halve.departures.reads c.halve.invariant.halving c.halve-test.true less);
    }

pub halve-preserved : goal.halve-preserved
halve-preserved c =
    let t = c.args.departures.now.image.now.timetable in
    let middle = c.halve.low + (c.halve.high - c.halve.low) / 2 in
    let here : c.read.result ≡ (connection_at t middle).dep =
    c.read.ensures.departure ∙ ap (λ (v : ImageValue). (connection_at v.timetable middle).dep)
    c.halve.invariant.same in
    let late : c.args.time ≤ (connection_at t middle).dep = omega (arith, here, c.if-read-time.false) in
    let less : middle - c.halve.low ≤ (c.halve.high - c.halve.low) / 2 = omega (arith, c.halve-test.true) in
    record {
      same = c.read.ensures.same ∙ c.halve.invariant.same;
      apart = omega (arith, c.halve-test.true);
      within = omega (arith, c.halve-test.true, c.halve.invariant.within);
      before = c.halve.invariant.before;
      after = λ k above lt. departs_after t middle c.args.time k c.args.departures.now.legal late above lt;
      halving =
          subst (λ (reads : List ℕ). IsHalving (length t.connections) c.halve.low middle c.args.departures.now.reads reads) (sym c.read.ensures.noted)
          (goes_on_below (length t.connections) c.halve.low c.halve.high middle c.args.departures.now.reads
          c.halve.departures.reads c.halve.invariant.halving c.halve-test.true less);
    }
