use Rattle.std.proofs.Common.{◌≡◌, ◌++◌, length, map, take}
use Rattle.gtfs_tables.specs.declared.tables.Feed.{Feed}
use Rattle.connections.specs.Keeping.{AreKept, HoldStarts}
use Rattle.connections.specs.Runs.{runs_from, runs_on}
use Rattle.connections.proofs.runs.add_runs_on.Given as goal

abbrev pub invariant-loop-position : goal.invariant-loop-position
invariant-loop-position l = record {
  len : length l.starts.items ≡ length l.trips;
  kept : AreKept l.fn.starts.items l.starts.items;
  runs : (feed : Feed) → l.running ≡ map (runs_on feed l.day) l.trips → HoldStarts feed.frequencies.items (length l.trips) l.fn.starts.items
      → l.runs.items ≡ l.fn.runs.items ++ runs_from feed l.day 0 (take l.position l.trips);
}
