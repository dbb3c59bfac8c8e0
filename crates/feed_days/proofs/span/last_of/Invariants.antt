use Rattle.std.proofs.Common.{◌≡◌, true}
use Rattle.gtfs_rows.specs.Values.{is_civil}
use Rattle.feed_days.specs.Service.{day_ordinal, gives_weekly}
use Rattle.feed_days.proofs.Spans.{HoldsTo}
use Rattle.feed_days.proofs.span.last_of.Given as goal

-- the row gives no service after the day
abbrev pub invariant-loop-day : goal.invariant-loop-day
invariant-loop-day l = record {
  civil : is_civil l.day ≡ true;
  to : HoldsTo (gives_weekly l.row) l.day;
}

abbrev pub decreases-loop-day : goal.decreases-loop-day
decreases-loop-day l = day_ordinal l.day
