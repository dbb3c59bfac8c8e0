use Rattle.std.proofs.Common.{◌≡◌, map, take}
use Rattle.gtfs_tables.specs.Names.{held_at}
use Rattle.gtfs_tables.specs.Rows.{frequency_of}
use Rattle.gtfs_tables.proofs.links.linked_frequencies.Given as goal

abbrev pub invariant-loop-row : goal.invariant-loop-row
invariant-loop-row l = l.linked.items ≡ map (frequency_of (held_at l.indices)) (take l.row-index l.rows)
