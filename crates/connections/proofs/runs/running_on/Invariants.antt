use Rattle.std.proofs.Common.{◌≡◌, ℕ, List, length, map, take}
use Rattle.gtfs_rows.specs.declared.values.Day.{Day}
use Rattle.gtfs_tables.specs.declared.tables.Feed.{Feed}
use Rattle.connections.specs.Active.{AreNamed, active_among}
use Rattle.connections.specs.Runs.{runs_on}
use Rattle.connections.proofs.runs.running_on.Given as goal

abbrev pub invariant-loop-position : goal.invariant-loop-position
invariant-loop-position l = record {
  len : length l.running.items ≡ l.position;
  marked : (feed : Feed) (day : Day) (names : List (List ℕ)) → AreNamed names l.trips l.indices → l.active ≡ active_among feed names day
      → l.running.items ≡ map (runs_on feed day) (take l.position l.trips);
}
