use Rattle.std.proofs.Common.{◌≡◌, ℕ, List, Option, length, map}
use Rattle.std.specs.Prelude.{filter}
use Rattle.gtfs_rows.specs.Tables.{is_stop}
use Rattle.gtfs_tables.specs.Rows.{station_of}
use Rattle.gtfs_tables.specs.Feeds.{feed_stop}
use Rattle.gtfs_tables.specs.declared.names.StopIdTarget.{StopIdTarget}
use Rattle.gtfs_tables.proofs.joining.feed_stops.Given as goal

abbrev pub invariant-loop-row : goal.invariant-loop-row
invariant-loop-row l = record {
  index : l.index ≡ length l.yielded;
  stops : (named : List ℕ → Option StopIdTarget) → l.stations ≡ map (station_of named) l.fn.rows.items
      → l.stops.items ≡ map (feed_stop named) (filter is_stop l.yielded);
}
