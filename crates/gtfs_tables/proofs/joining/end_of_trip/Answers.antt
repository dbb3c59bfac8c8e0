use Rattle.std.proofs.Common.{◌+◌, arith, length}
use Rattle.gtfs_tables.specs.Order.{sort_keys_by}
use Rattle.gtfs_tables.proofs.OrderLemmas.{first_row_of-is}
use Rattle.gtfs_tables.proofs.joining.end_of_trip.Goals as goal

pub returns-then-trip_at-trip-clause-end : goal.returns-then-trip_at-trip-clause-end
returns-then-trip_at-trip-clause-end c =
    let len = c.requires.len in
    let here = c.loop-at-test.true in
    first_row_of-is (sort_keys_by c.args.order.now c.args.rows.now) (c.args.trip + 1) c.loop-at.at c.requires.rising (omega (arith, len, here))
    c.loop-at.invariant
    (λ d lt. let same = c.trip_at.ensures d in let more = c.if-trip_at-trip.true in omega (arith, same, more))

pub returns-clause-end : goal.returns-clause-end
returns-clause-end c =
    let len = c.requires.len in
    let over = c.loop-at-test.false in
    first_row_of-is (sort_keys_by c.args.order.now c.args.rows.now) (c.args.trip + 1) (length c.args.rows.now) c.requires.rising (omega (arith, len))
    (λ k d low lt. c.loop-at.invariant k d low (omega (arith, lt, over))) (λ d lt. absurd (omega (arith, len, lt)))
