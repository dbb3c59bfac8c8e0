use Rattle.std.proofs.Common.{◌≡◌, ◌-◌, ◌<◌, ◌≤◌, IsSome, length}
use Rattle.gtfs_tables.specs.Spread.{IsSpreadBefore, arrival_at}
use Rattle.gtfs_tables.proofs.spreading.spread.Given as goal

abbrev pub invariant-loop-at : goal.invariant-loop-at
invariant-loop-at l = record {
  within : l.at ≤ length l.rows;
  from : l.at < length l.rows → IsSome (arrival_at l.rows l.at);
  len : length l.times.items ≡ l.at;
  spread : IsSpreadBefore l.rows l.times.items l.at;
}

abbrev pub decreases-loop-at : goal.decreases-loop-at
decreases-loop-at l = length l.rows - l.at
