use Rattle.feed_days.specs.Service.{give_once, give_weekly}
use Rattle.feed_days.proofs.span.span_of.Goals as goal

pub returns : goal.returns
returns c =
    c.joined.ensures (give_weekly c.args.feed.now.calendar.items) (give_once c.args.feed.now.calendar_dates.items)
    (rw c.deref.ensures.value at c.weekly_span.ensures) (rw c.deref-2.ensures.value at c.added_span.ensures)
