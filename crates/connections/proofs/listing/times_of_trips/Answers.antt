use Rattle.std.proofs.Common.{◌≡◌, ◌<◌, ◌∙◌, ap, subst, List, length, get_or, arith}
use Rattle.gtfs_rows.specs.declared.rows.StopTimeRow.{StopTimeRow}
use Rattle.gtfs_tables.specs.declared.tables.Trip.{Trip}
use Rattle.connections.specs.Times.{AreTripTimes}
use Rattle.connections.proofs.FinalLemmas.{times_all, times_more, times_none}
use Rattle.connections.proofs.listing.times_of_trips.Goals as goal

pub loop-trip-init : goal.loop-trip-init
loop-trip-init c = rw c.in_ok-times.ensures.items (times_none c.args.feed.now.stop_times.items c.args.feed.now.trips.items)

pub loop-trip-preserved : goal.loop-trip-preserved
loop-trip-preserved c =
    let items : c.deref-trip-items.result.now ≡ c.args.feed.now.trips.items = c.deref-trip-items.ensures.value in
    let sizes = ap (λ (ts : List Trip). length ts) items in
    let below : c.loop-trip.trip-index < length c.args.feed.now.trips.items = omega (arith, sizes, c.loop-trip-test.true) in
    let is : c.trip-item.result ≡ get_or c.args.feed.now.trips.items c.loop-trip.trip-index c.trip-item.result = c.trip-item.is
    ∙ ap (λ (ts : List Trip). get_or ts c.loop-trip.trip-index c.trip-item.result) items in
    let fits : AreTripTimes c.args.feed.now.stop_times.items c.trip-item.result c.in_ok-made.made =
    subst (λ (st : List StopTimeRow). AreTripTimes st c.trip-item.result c.in_ok-made.made) c.deref.ensures.value c.in_ok-made.ensures in
    times_more c.args.feed.now.stop_times.items c.args.feed.now.trips.items c.loop-trip.times.items c.push.new.self.items c.loop-trip.trip-index
    c.trip-item.result c.in_ok-made.made c.loop-trip.invariant below is fits c.in_ok-push.ensures.items

pub returns : goal.returns
returns c =
    let items : c.deref-trip-items.result.now ≡ c.args.feed.now.trips.items = c.deref-trip-items.ensures.value in
    let sizes = ap (λ (ts : List Trip). length ts) items in
    let end : c.loop-trip.trip-index ≡ length c.args.feed.now.trips.items =
    (let over = c.loop-trip-test.false in let under = c.loop-trip.auto.trip-index-end in omega (arith, sizes, over, under)) in
    times_all c.args.feed.now.stop_times.items c.args.feed.now.trips.items c.loop-trip.times.items c.loop-trip.trip-index c.loop-trip.invariant end
