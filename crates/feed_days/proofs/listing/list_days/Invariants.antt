use Rattle.std.proofs.Common.{◌≡◌, ◌≤◌, ◌+◌, ◌-◌, true}
use Rattle.gtfs_rows.specs.Values.{is_civil}
use Rattle.connections.specs.Days.{days_from}
use Rattle.feed_days.specs.Days.{days_after}
use Rattle.feed_days.specs.Service.{day_ordinal}
use Rattle.feed_days.proofs.listing.list_days.Given as goal

-- so many days are listed, and the next isn't behind the last
abbrev pub invariant-loop-listed : goal.invariant-loop-listed
invariant-loop-listed l = record {
  civil : is_civil l.day ≡ true;
  day : l.day ≡ days_after l.span.first l.listed;
  index : day_ordinal l.day ≡ day_ordinal l.span.first + l.listed;
  within : day_ordinal l.day ≤ day_ordinal l.span.last;
  few : l.listed ≤ 366;
  days : l.days.items ≡ days_from l.span.first l.listed;
}

abbrev pub decreases-loop-listed : goal.decreases-loop-listed
decreases-loop-listed l = 366 - l.listed
