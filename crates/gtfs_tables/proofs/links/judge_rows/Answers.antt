use Rattle.std.proofs.Common.{◌∙◌, sym, ap, arith, Some, slice_index_or}
use Rattle.reasoning.proofs.FirstLemmas.{first_below-start}
use Rattle.gtfs_rows.specs.declared.fault.Table.TheVariants.{StopTimes}
use Rattle.gtfs_tables.specs.Order.{no_row}
use Rattle.gtfs_tables.specs.Rows.{is_flex_id, linked_fault}
use Rattle.gtfs_tables.proofs.FirstLemmas.{copy_fine, copy_wrong}
use Rattle.gtfs_tables.proofs.RowLemmas.{fault_same}
use Rattle.gtfs_tables.proofs.links.judge_rows.Goals as goal

pub loop-index-init : goal.loop-index-init
loop-index-init c = first_below-start _

pub loop-index-preserved : goal.loop-index-preserved
loop-index-preserved c =
    let row = slice_index_or c.args.rows.now c.loop-index.index no_row in
    copy_fine StopTimes (λ row. linked_fault c.args.trips.now c.args.stops.now (is_flex_id c.args.rows.now row.trip)
    row) c.args.rows.now c.loop-index.index no_row (omega arith)
    (sym (fault_same c.args.trips.now c.args.stops.now c.args.rows.now c.args.flex.now row c.requires)
    ∙ ap (λ flex. linked_fault c.args.trips.now c.args.stops.now flex row) (sym c.flex_at.ensures) ∙ sym c.wrong_link.ensures ∙ c.in_default.is)
    c.loop-index.invariant

pub returns-in-Some-clause-err : goal.returns-in-Some-clause-err
returns-in-Some-clause-err c =
    let row = slice_index_or c.args.rows.now c.loop-index.index no_row in
    let wrong = copy_wrong StopTimes (λ row.
    linked_fault c.args.trips.now c.args.stops.now (is_flex_id c.args.rows.now row.trip) row) c.args.rows.now
    c.loop-index.index no_row c.in-Some.kind (omega arith)
    (sym (fault_same c.args.trips.now c.args.stops.now c.args.rows.now c.args.flex.now row c.requires)
    ∙ ap (λ flex. linked_fault c.args.trips.now c.args.stops.now flex row) (sym c.flex_at.ensures) ∙ sym c.wrong_link.ensures ∙ c.in-Some.is)
    c.loop-index.invariant in
    wrong ∙ ap (λ fault. Some fault) (sym c.fault_at.ensures)
