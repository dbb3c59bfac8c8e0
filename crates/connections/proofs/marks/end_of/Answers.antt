use Rattle.std.proofs.Common.{◌∙◌, sym, ap, max, get_or}
use Rattle.gtfs_tables.specs.declared.tables.Frequency.{Frequency}
use Rattle.connections.proofs.MarkSteps.{end_more, end_none}
use Rattle.connections.proofs.marks.end_of.Goals as goal

pub loop-row-init : goal.loop-row-init
loop-row-init c = sym end_none

pub loop-row-preserved : goal.loop-row-preserved
loop-row-preserved c =
    let none : Frequency = record { trip = 0; start = 0; end = 0; headway = 0 } in
    c.max-end.ensures ∙ ap (λ n. max (get_or c.args.rows.now c.loop-row.row-index none).end n) c.loop-row.invariant
    ∙ sym (end_more c.args.rows.now c.loop-row.row-index none c.loop-row-test.true)
