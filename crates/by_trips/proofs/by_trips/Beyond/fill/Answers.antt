use Rattle.by_trips.proofs.BeyondLemmas.{filled_before, filled_now, is_none, is_some}
use Rattle.by_trips.proofs.by_trips.Beyond.fill.Goals as goal

pub returns-then-not-is_empty : goal.returns-then-not-is_empty
returns-then-not-is_empty c =
    filled_before c.args.stops c.args.trips c.args.self.now c.requires.are
    (is_some c.args.self.now.labels c.is_empty.result c.is_empty.ensures c.if-not-is_empty.true)

pub returns : goal.returns
returns c =
    filled_now c.args.stops c.args.trips c.args.self.now (record { labels = c.in_ok-labels.labels; points = c.in_ok-points.points }) c.requires.some
    c.requires.are (is_none c.args.self.now.labels c.is_empty.result c.is_empty.ensures c.if-not-is_empty.false)
    (record { long = c.in_ok-labels.ensures.long; none = c.in_ok-labels.ensures.none })
    (record { long = c.in_ok-points.ensures.long; none = c.in_ok-points.ensures.none })
