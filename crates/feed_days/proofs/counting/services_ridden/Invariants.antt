use Rattle.std.proofs.Common.{◌≡◌, ℕ, List, false, get_or, take}
use Rattle.std.specs.List.{count_by}
use Rattle.gtfs_rows.specs.declared.values.Day.{Day}
use Rattle.gtfs_tables.specs.declared.tables.Feed.{Feed}
use Rattle.connections.specs.Active.{AreNamed, active_among}
use Rattle.connections.specs.Runs.{runs_on}
use Rattle.feed_days.proofs.counting.services_ridden.Given as goal

abbrev pub invariant-loop-index : goal.invariant-loop-index
invariant-loop-index l = (feed : Feed) (day : Day) (names : List (List ℕ)) → AreNamed names l.trips l.indices
    → count_by (λ service. get_or (active_among feed names day) service false) l.ridden.items ≡ count_by (runs_on feed day) (take l.index l.trips)
