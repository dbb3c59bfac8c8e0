use Rattle.std.proofs.Common.{◌≡◌, length, map, take}
use Rattle.gtfs_tables.specs.declared.tables.Feed.{Feed}
use Rattle.connections.specs.Active.{AreActive}
use Rattle.connections.specs.Keeping.{AreKept, HoldStarts}
use Rattle.connections.specs.Runs.{runs_of_days}
use Rattle.connections.proofs.runs.list_runs.Given as goal

abbrev pub invariant-loop-number : goal.invariant-loop-number
invariant-loop-number l = record {
  len : length l.starts.items ≡ length l.trips;
  kept : AreKept l.fn.starts.items l.starts.items;
  runs : (feed : Feed) → feed.trips.items ≡ l.trips → HoldStarts feed.frequencies.items (length l.trips) l.fn.starts.items
      → AreActive feed (map (λ d. d.day) l.days) l.trips l.services
      → l.runs.items ≡ runs_of_days feed (map (λ d. d.day) (take l.number l.days));
}
