use Rattle.std.proofs.Common.{List, subst, take}
use Rattle.std.proofs.lemmas.List.{take_all}
use Rattle.gtfs_rows.specs.declared.rows.CalendarRow.{CalendarRow}
use Rattle.feed_days.specs.Service.{SpansDays, give_weekly, gives_weekly}
use Rattle.feed_days.proofs.Rows.{weekly_more}
use Rattle.feed_days.proofs.span.weekly_span.Goals as goal

pub loop-row-preserved : goal.loop-row-preserved
loop-row-preserved c =
    weekly_more c.args.rows.now c.loop-row.row-index c.row-item.result c.joined-span.result c.loop-row-test.true c.row-item.is
    (c.joined-span.ensures (give_weekly (take c.loop-row.row-index c.args.rows.now)) (gives_weekly c.row-item.result) c.loop-row.invariant c.row_span.ensures)

pub returns : goal.returns
returns c =
    subst (λ (rows : List CalendarRow). SpansDays (give_weekly rows) c.loop-row.span) (take_all c.loop-row.row-index c.args.rows.now c.loop-row-test.false)
    c.loop-row.invariant
