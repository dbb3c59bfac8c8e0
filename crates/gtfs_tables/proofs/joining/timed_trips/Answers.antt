use Rattle.std.proofs.Common.{◌<◌, ◌∙◌, ◌∷◌, [], ap, length, length-append, false, slice_index_or, refl, arith}
use Rattle.std.proofs.lemmas.Grind.{common_steps}
use Rattle.reasoning.proofs.FirstLemmas.{first_below-more, first_below-found, first_below-start}
use Rattle.gtfs_tables.specs.Feeds.{trip_fault}
use Rattle.gtfs_tables.specs.Order.{sort_keys_by}
use Rattle.gtfs_tables.proofs.FeedLemmas.{feed_trips-more, trip_fault-at}
use Rattle.gtfs_tables.proofs.OrderLemmas.{first_row_of-is}
use Rattle.gtfs_tables.proofs.joining.timed_trips.Goals as goal

pub loop-row-init : goal.loop-row-init
loop-row-init c = record {
  index = refl;
  left = let e = ap length c.into_iter-row-iterator.ensures.into_iter_gives.0 in omega (arith, e);
  within = omega arith;
  first = first_row_of-is (sort_keys_by c.args.order.now c.args.rows.now) 0 0 c.requires.rising (omega arith)
      (λ k d low lt. absurd (omega arith)) (λ d lt. omega arith);
  before = λ k d low lt. absurd (omega arith);
  fine = first_below-start _;
  timed = c.in-Ok.ensures.items;
}

pub loop-row-preserved : goal.loop-row-preserved
loop-row-preserved c = record {
  index = grind (arith, common_steps);
  left = let step = ap length c.in-Some.ensures.steps.0 in let more =
      length-append c.loop-row.yielded (c.in-Some.row
      ∷ []) in omega (
        arith,
        step,
        more,
        c.loop-row.invariant.left,
      );
  within = c.end_of_trip-end.ensures.within;
  first = c.end_of_trip-end.ensures.end;
  before = c.end_of_trip-end.ensures.before;
  fine = first_below-more (trip_fault c.args.strict (sort_keys_by c.args.order.now c.args.rows.now) c.args.rows.now) c.loop-row.index c.loop-row.invariant.fine
      (trip_fault-at c.args.strict (sort_keys_by c.args.order.now c.args.rows.now) c.args.rows.now c.loop-row.index c.loop-row.first
      c.end_of_trip-end.result c.loop-row.invariant.first c.end_of_trip-end.ensures.end ∙ c.in-Ok-judge_trip.ensures.ok);
  timed = c.in-Ok-push.ensures.items ∙ feed_trips-more (sort_keys_by c.args.order.now c.args.rows.now) c.args.rows.now
      (λ t. slice_index_or c.args.repeats.now t false) c.loop-row.index c.loop-row.yielded c.in-Some.row c.loop-row.timed.items
      c.loop-row.first c.end_of_trip-end.result c.flex_at.result c.is_flex.result c.loop-row.invariant.index
      c.loop-row.invariant.timed c.loop-row.invariant.first c.end_of_trip-end.ensures.end c.flex_at.ensures
      c.is_flex.ensures;
}

pub returns-in-Err-clause-err : goal.returns-in-Err-clause-err
returns-in-Err-clause-err c = λ other.
    let step = ap length c.in-Some.ensures.steps.0 in
    let lt : c.loop-row.index < length c.args.trips.items = omega (arith, step, c.loop-row.invariant.left, c.loop-row.invariant.index) in
    first_below-found (trip_fault c.args.strict (sort_keys_by c.args.order.now c.args.rows.now) c.args.rows.now) (length c.args.trips.items)
    c.loop-row.index c.in-Err.fault lt c.loop-row.invariant.fine
    (trip_fault-at c.args.strict (sort_keys_by c.args.order.now c.args.rows.now) c.args.rows.now c.loop-row.index c.loop-row.first
    c.end_of_trip-end.result c.loop-row.invariant.first c.end_of_trip-end.ensures.end ∙ c.in-Err.ensures.err other)
