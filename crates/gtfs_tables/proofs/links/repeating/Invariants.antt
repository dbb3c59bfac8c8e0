use Rattle.std.proofs.Common.{◌≡◌, ◌<◌, ℕ, None, false, take, length, slice_index_or}
use Rattle.gtfs_rows.specs.declared.fault.Table.TheVariants.{Frequencies}
use Rattle.gtfs_tables.specs.First.{first_below, row_fault}
use Rattle.gtfs_tables.specs.Names.{held_at}
use Rattle.gtfs_tables.specs.Rows.{frequency_fault, is_repeated}
use Rattle.gtfs_tables.proofs.links.repeating.Given as goal

abbrev pub invariant-loop-at : goal.invariant-loop-at
invariant-loop-at l = record {
  fine : first_below (row_fault Frequencies (frequency_fault (held_at l.indices)) l.frequencies) l.at ≡ None;
  len : length l.repeats.items ≡ l.trips;
  marked : (t : ℕ) → t < l.trips → slice_index_or l.repeats.items t false ≡ is_repeated (held_at l.indices) (take l.at l.frequencies) t;
}
