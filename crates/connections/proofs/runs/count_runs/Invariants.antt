use Rattle.std.proofs.Common.{◌≡◌, List, length, take}
use Rattle.gtfs_rows.specs.declared.values.Day.{Day}
use Rattle.gtfs_tables.specs.declared.tables.Feed.{Feed}
use Rattle.timetable.specs.declared.limits.TheConstants.{MAX_TRIPS}
use Rattle.connections.specs.Active.{AreActive}
use Rattle.connections.specs.Counting.{IsCount}
use Rattle.connections.specs.Keeping.{AreKept, HoldStarts}
use Rattle.connections.specs.Runs.{runs_of_days}
use Rattle.connections.proofs.runs.count_runs.Given as goal

abbrev pub invariant-loop-active : goal.invariant-loop-active
invariant-loop-active l = record {
  len : length l.starts.items ≡ length l.trips;
  kept : AreKept l.fn.starts.items l.starts.items;
  count : (feed : Feed) (days : List Day) → feed.trips.items ≡ l.trips → HoldStarts feed.frequencies.items (length l.trips) l.fn.starts.items
      → AreActive feed days l.trips l.services
      → IsCount MAX_TRIPS l.count (length (runs_of_days feed (take l.active-index days)));
}
