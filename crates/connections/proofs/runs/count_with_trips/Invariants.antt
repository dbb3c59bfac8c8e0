use Rattle.std.proofs.Common.{◌≡◌, ◌+◌, ℕ, length, map, take}
use Rattle.gtfs_rows.specs.declared.values.Day.{Day}
use Rattle.gtfs_tables.specs.declared.tables.Feed.{Feed}
use Rattle.timetable.specs.declared.limits.TheConstants.{MAX_TRIPS}
use Rattle.connections.specs.Counting.{IsCount}
use Rattle.connections.specs.Keeping.{AreKept, HoldStarts}
use Rattle.connections.specs.Runs.{runs_from, runs_on}
use Rattle.connections.proofs.runs.count_with_trips.Given as goal

abbrev pub invariant-loop-position : goal.invariant-loop-position
invariant-loop-position l = record {
  len : length l.starts.items ≡ length l.trips;
  kept : AreKept l.fn.starts.items l.starts.items;
  count : (feed : Feed) (day : Day) (n : ℕ) → l.running ≡ map (runs_on feed day) l.trips
      → HoldStarts feed.frequencies.items (length l.trips) l.fn.starts.items → IsCount MAX_TRIPS l.before n
      → IsCount MAX_TRIPS l.count (n + length (runs_from feed day 0 (take l.position l.trips)));
}
