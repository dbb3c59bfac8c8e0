use Rattle.std.proofs.Common.{◌≡◌, ◌<◌, ◌≤◌, ℕ, None}
use Rattle.gtfs_tables.specs.Spread.{arrival_at}
use Rattle.gtfs_tables.proofs.spreading.next_given.Given as goal

abbrev pub invariant-loop-at : goal.invariant-loop-at
invariant-loop-at l = (m : ℕ) → l.from ≤ m → m < l.at → arrival_at l.rows m ≡ None
