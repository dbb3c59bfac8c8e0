use Rattle.std.proofs.Common.{List, subst, take}
use Rattle.std.proofs.lemmas.List.{take_all}
use Rattle.gtfs_rows.specs.declared.rows.CalendarDateRow.{CalendarDateRow}
use Rattle.feed_days.specs.Service.{SpansDays, give_once, gives_once}
use Rattle.feed_days.proofs.Rows.{once_more}
use Rattle.feed_days.proofs.span.added_span.Goals as goal

pub loop-row-preserved : goal.loop-row-preserved
loop-row-preserved c =
    once_more c.args.rows.now c.loop-row.row-index c.row-item.result c.joined-span.result c.loop-row-test.true c.row-item.is
    (c.joined-span.ensures (give_once (take c.loop-row.row-index c.args.rows.now)) (gives_once c.row-item.result) c.loop-row.invariant c.added_day.ensures)

pub returns : goal.returns
returns c =
    subst (λ (rows : List CalendarDateRow). SpansDays (give_once rows) c.loop-row.span) (take_all c.loop-row.row-index c.args.rows.now c.loop-row-test.false)
    c.loop-row.invariant
