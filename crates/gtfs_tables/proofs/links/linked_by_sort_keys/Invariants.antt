use Rattle.std.proofs.Common.{◌≡◌, map, take}
use Rattle.gtfs_tables.specs.Order.{row_of}
use Rattle.gtfs_tables.specs.Rows.{is_flex_id, linked_row}
use Rattle.gtfs_tables.proofs.links.linked_by_sort_keys.Given as goal

abbrev pub invariant-loop-sort_key : goal.invariant-loop-sort_key
invariant-loop-sort_key l = l.ordered.items ≡ map (λ sort_key. let row =
    row_of l.rows sort_key.number in
    linked_row l.names.trips.items l.names.stops.items
    (is_flex_id l.rows row.trip) row)
    (take l.sort_key-index l.sort_keys)
