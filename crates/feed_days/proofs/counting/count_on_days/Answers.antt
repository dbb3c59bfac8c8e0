use Rattle.std.proofs.Common.{◌≡◌, ◌∙◌, ◌==◌, ◌^◌, ◌<◌, ℕ, List, ap, arith, get_or, length, replicate, rules, sym}
use Rattle.std.specs.List.{count_by}
use Rattle.std.proofs.lemmas.List.{get_or-replicate, get_or_default, length-replicate}
use Rattle.service_days.specs.Services.{dated}
use Rattle.service_days.specs.declared.day.DatedDay.{DatedDay}
use Rattle.feed_days.specs.Counting.{rides_on}
use Rattle.feed_days.proofs.Order.{first_day}
use Rattle.feed_days.proofs.Ridden.{counted_all, counted_few, counted_none, day_counted, rides_below, trips_at, written_back}
use Rattle.feed_days.proofs.counting.count_on_days.Goals as goal

pub loop-index-init : goal.loop-index-init
loop-index-init c =
    let days = c.args.days.now in
    let zeros : c.in_ok-counts.counts.items ≡ replicate (length days) 0 = c.in_ok-counts.ensures.items_if_clones_equal (λ y is. is) in
    record {
      len = ap length zeros ∙ length-replicate (length days) 0;
      each = λ i d lt. ap (λ (xs : List ℕ). get_or xs i 0) zeros ∙ get_or-replicate (length days) i 0 0 lt
          ∙ sym (counted_none (rides_on c.args.services.now (get_or days i d)) c.args.ridden.now);
    }

pub add_trips-requires-clause-few : goal.add_trips-requires-clause-few
add_trips-requires-clause-few c = λ i lt.
    let services = c.args.services.now in
    let ridden = c.args.ridden.now in
    let index = c.loop-index.index in
    let day : DatedDay = get_or c.args.days.now i (dated first_day) in
    let old : get_or c.deref_mut.result.now i 0 ≡ count_by (rides_below services day index) ridden =
    ap (λ (xs : List ℕ). get_or xs i 0) c.deref_mut.ensures.value ∙ c.loop-index.invariant.each i (dated first_day) lt in
    let trips : c.index.result.now ≡ count_by (λ k. k == index) ridden =
    trips_at c.in_ok-trips.trips.items index (length services) ridden c.index.result.now c.in_ok-trips.ensures.len c.loop-index-test.true c.index.ensures
    (c.in_ok-trips.ensures.each index c.loop-index-test.true) in
    let few = counted_few (rides_on services day) index ridden in
    let most : length ridden < 2 ^ 64 = search rules in
    omega (arith, old, trips, few, most)

pub loop-index-preserved : goal.loop-index-preserved
loop-index-preserved c =
    let services = c.args.services.now in
    let days = c.args.days.now in
    let ridden = c.args.ridden.now in
    let index = c.loop-index.index in
    let is = c.loop-index.invariant in
    let value = c.deref_mut.ensures.value in
    let long = c.add_trips.ensures.len in
    let same : length c.loop-index.counts.items ≡ c.loop-index.counts.len = sym (ap length value) ∙ c.deref_mut.ensures.len in
    let whole = written_back c.loop-index.counts.len c.add_trips.new.counts c.loop-index.counts.items (long ∙ sym is.len ∙ same) same in
    let trips : c.index.result.now ≡ count_by (λ k. k == index) ridden =
    trips_at c.in_ok-trips.trips.items index (length services) ridden c.index.result.now c.in_ok-trips.ensures.len c.loop-index-test.true c.index.ensures
    (c.in_ok-trips.ensures.each index c.loop-index-test.true) in
    rw whole (record {
      len = long;
      each = λ i d lt. day_counted services (get_or days i d) index _ ridden
          (get_or c.deref_mut.result.now i 0) (get_or c.add_trips.new.counts i 0) c.index.result.now
          c.loop-index-test.true (get_or_default services index _ _ c.loop-index-test.true)
          (ap (λ (xs : List ℕ). get_or xs i 0) value ∙ is.each i d lt) trips (c.add_trips.ensures.each i d lt);
    })

pub returns-clause-each : goal.returns-clause-each
returns-clause-each c = λ i d lt.
    c.loop-index.invariant.each i d lt
    ∙ counted_all c.args.services.now (get_or c.args.days.now i d) c.loop-index.index c.args.ridden.now c.loop-index-test.false
