use Rattle.std.proofs.Common.{◌≡◌, ◌+◌, ◌-◌, ◌<◌, ℕ, length, slice_index_or}
use Rattle.gtfs_tables.specs.Spread.{part_of}
use Rattle.gtfs_tables.proofs.spreading.add_parts.Given as goal

abbrev pub invariant-loop-j : goal.invariant-loop-j
invariant-loop-j l = record {
  len : length l.times.items + 1 ≡ length l.initial.times.items + l.j;
  kept : (i : ℕ) → i < length l.initial.times.items → slice_index_or l.times.items i (0, 0) ≡ slice_index_or l.initial.times.items i (0, 0);
  parts : (k : ℕ) → 0 < k → k < l.j → slice_index_or l.times.items (length l.initial.times.items + k - 1) (
    0,
    0,
  ) ≡ (part_of l.from l.to l.parts k, part_of l.from l.to l.parts k);
}
