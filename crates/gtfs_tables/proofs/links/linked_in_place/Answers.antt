use Rattle.std.proofs.Common.{◌∙◌, ap, arith, slice_set}
use Rattle.std.proofs.lemmas.List.Edits.{map_over_more}
use Rattle.gtfs_rows.specs.declared.rows.StopTimeRow.{StopTimeRow}
use Rattle.gtfs_tables.specs.Rows.{is_flex_id, linked_row}
use Rattle.gtfs_tables.proofs.RowLemmas.{row_same}
use Rattle.gtfs_tables.proofs.links.linked_in_place.Goals as goal

pub loop-at-preserved : goal.loop-at-preserved
loop-at-preserved c =
    let row = c.index.result.now in
    let link = λ (row : StopTimeRow). linked_row c.args.names.now.trips.items c.args.names.now.stops.items (is_flex_id c.args.rows.items row.trip) row in
    ap (λ made. slice_set c.loop-at.rows.items c.loop-at.at made)
    (c.linked_marked.ensures ∙ row_same c.args.names.now.trips.items c.args.names.now.stops.items c.args.rows.items c.args.names.now.flex.items row c.requires)
    ∙ map_over_more link c.args.rows.items c.loop-at.rows.items c.loop-at.at row (omega (arith, c.loop-at-test.true, c.len-at-end.ensures))
    c.loop-at.invariant c.index.ensures
