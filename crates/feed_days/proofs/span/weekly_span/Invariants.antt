use Rattle.std.proofs.Common.{take}
use Rattle.feed_days.specs.Service.{SpansDays, give_weekly}
use Rattle.feed_days.proofs.span.weekly_span.Given as goal

abbrev pub invariant-loop-row : goal.invariant-loop-row
invariant-loop-row l = SpansDays (give_weekly (take l.row-index l.rows)) l.span
