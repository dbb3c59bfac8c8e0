use Rattle.std.proofs.Common.{◌≡◌, ◌∙◌, arith, sym}
use Rattle.gtfs_tables.specs.Feeds.{trip_fault}
use Rattle.gtfs_tables.specs.Order.{sort_keys_by}
use Rattle.gtfs_tables.proofs.FeedLemmas.{trip_fault-at}
use Rattle.gtfs_tables.proofs.FirstLemmas.{all_below-more, all_below-start}
use Rattle.gtfs_tables.proofs.OrderLemmas.{first_row_of-is}
use Rattle.gtfs_tables.proofs.trip_faults.faults_of_trips.Goals as goal

pub loop-trip-init : goal.loop-trip-init
loop-trip-init c = record {
  within = omega arith;
  first = first_row_of-is (sort_keys_by c.args.order.now c.args.rows.now) 0 0 c.requires.rising (omega arith)
      (λ k d low lt. absurd (omega arith)) (λ d lt. omega arith);
  before = λ k d low lt. absurd (omega arith);
  found = c.new-faults.ensures.items ∙ sym (all_below-start _);
}

pub loop-trip-preserved : goal.loop-trip-preserved
loop-trip-preserved c =
    let sort_keys = sort_keys_by c.args.order.now c.args.rows.now in
    let fault : trip_fault c.args.strict sort_keys c.args.rows.now c.loop-trip.trip ≡ c.in_ok-fault.fault =
    trip_fault-at c.args.strict sort_keys c.args.rows.now c.loop-trip.trip c.loop-trip.first c.end_of_trip-end.result
    c.loop-trip.invariant.first c.end_of_trip-end.ensures.end ∙ sym c.in_ok-fault.ensures in
    record {
      within = c.end_of_trip-end.ensures.within;
      first = c.end_of_trip-end.ensures.end;
      before = c.end_of_trip-end.ensures.before;
      found = c.in_ok-add_fault.ensures ∙ all_below-more (trip_fault c.args.strict sort_keys c.args.rows.now) c.loop-trip.trip
          c.loop-trip.faults.items c.in_ok-fault.fault c.loop-trip.invariant.found fault;
    }
