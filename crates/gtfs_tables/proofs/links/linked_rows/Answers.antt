use Rattle.std.proofs.Common.{◌∙◌, ap, map, sym}
use Rattle.gtfs_rows.specs.declared.rows.StopTimeRow.{StopTimeRow}
use Rattle.gtfs_tables.specs.Order.{row_of, sort_keys_in}
use Rattle.gtfs_tables.specs.Rows.{is_flex_id, linked_row}
use Rattle.gtfs_tables.specs.declared.order.RowOrder.{RowOrder}
use Rattle.gtfs_tables.proofs.SortKeyLemmas.{made_as_filed}
use Rattle.gtfs_tables.proofs.links.linked_rows.Goals as goal

pub returns-in-Filed : goal.returns-in-Filed
returns-in-Filed c =
    let link = λ (row : StopTimeRow). linked_row c.args.names.now.trips.items c.args.names.now.stops.items (is_flex_id c.args.rows.items row.trip) row in
    c.linked_in_place.ensures ∙ sym (made_as_filed link c.args.names.now.trips.items c.args.rows.items)
    ∙ ap (λ (order : RowOrder). map (λ sort_key. link (row_of c.args.rows.items sort_key.number))
    (sort_keys_in c.args.names.now.trips.items order c.args.rows.items))
    (sym c.in-Filed.is)
