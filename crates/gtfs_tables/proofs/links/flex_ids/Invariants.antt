use Rattle.std.proofs.Common.{◌≡◌, ◌<◌, ℕ, false, take, length, slice_index_or}
use Rattle.gtfs_tables.specs.Rows.{is_flex_id}
use Rattle.gtfs_tables.proofs.links.flex_ids.Given as goal

abbrev pub invariant-loop-row : goal.invariant-loop-row
invariant-loop-row l = record {
  len : length l.flex.items ≡ l.ids;
  marked : (id : ℕ) → id < l.ids → slice_index_or l.flex.items id false ≡ is_flex_id (take l.row-index l.rows) id;
}
