use Rattle.std.proofs.Common.{◌∙◌, ap, arith}
use Rattle.gtfs_rows.specs.declared.rows.StopTimeRow.{StopTimeRow}
use Rattle.gtfs_tables.specs.Order.{row_of}
use Rattle.gtfs_tables.specs.Rows.{is_flex_id, linked_row}
use Rattle.gtfs_tables.proofs.RowLemmas.{mapped_more, no_sort_key, row_same}
use Rattle.gtfs_tables.proofs.links.linked_by_sort_keys.Goals as goal

pub loop-sort_key-preserved : goal.loop-sort_key-preserved
loop-sort_key-preserved c =
    let row = c.row_numbered-row.result in
    let link = λ (row : StopTimeRow). linked_row c.args.names.now.trips.items c.args.names.now.stops.items (is_flex_id c.args.rows.now row.trip) row in
    c.in_ok-push.ensures.items ∙ mapped_more (λ sort_key. link (row_of c.args.rows.now sort_key.number)) c.args.sort_keys.now c.loop-sort_key.sort_key-index
    no_sort_key
    c.loop-sort_key.ordered.items c.linked_marked.result (omega arith) c.loop-sort_key.invariant
    (c.linked_marked.ensures ∙ row_same c.args.names.now.trips.items c.args.names.now.stops.items c.args.rows.now
    c.args.names.now.flex.items row c.requires ∙ ap link c.row_numbered-row.ensures)
