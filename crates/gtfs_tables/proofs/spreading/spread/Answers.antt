use Rattle.std.proofs.Common.{arith}
use Rattle.gtfs_tables.proofs.SpreadLemmas.{spread_more}
use Rattle.gtfs_tables.proofs.spreading.spread.Goals as goal

pub loop-at-preserved : goal.loop-at-preserved
loop-at-preserved c = record {
  within = c.next_given-next.ensures.within;
  from = c.next_given-next.ensures.given;
  len = omega (arith, c.loop-at.invariant.len, c.in_ok-add_times.ensures.len, c.next_given-next.ensures.from);
  spread = spread_more c.args.rows.now c.loop-at.times.items c.add_times.new.times.items c.loop-at.at c.next_given-next.result (record {
    len = c.loop-at.invariant.len;
    rising = omega (arith, c.next_given-next.ensures.from);
    from = c.loop-at.invariant.from (omega arith);
    to = c.next_given-next.ensures.given;
    between = c.next_given-next.ensures.blank;
    kept = c.in_ok-add_times.ensures.kept;
    here = c.in_ok-add_times.ensures.given;
    parts = c.in_ok-add_times.ensures.blank;
  }) c.loop-at.invariant.spread;
}
