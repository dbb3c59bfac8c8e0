use Rattle.std.proofs.Common.{◌≡◌, ◌++◌, drop, map, take}
use Rattle.gtfs_tables.specs.Rows.{is_flex_id, linked_row}
use Rattle.gtfs_tables.proofs.links.linked_in_place.Given as goal

abbrev pub invariant-loop-at : goal.invariant-loop-at
invariant-loop-at l =
    l.rows.items ≡ map (λ row. linked_row l.names.trips.items l.names.stops.items (is_flex_id l.fn.rows.items row.trip)
    row) (take l.at l.fn.rows.items) ++ drop l.at l.fn.rows.items
