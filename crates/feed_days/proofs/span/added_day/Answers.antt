use Rattle.std.proofs.Common.{sym}
use Rattle.feed_days.proofs.Rows.{once_none, once_span}
use Rattle.feed_days.proofs.span.added_day.Goals as goal

pub returns-then-not-adds_day : goal.returns-then-not-adds_day
returns-then-not-adds_day c = once_none c.args.row.now (sym c.if-not-adds_day.ensures)

pub returns : goal.returns
returns c = once_span c.args.row.now (sym c.if-not-adds_day.ensures)
