use Rattle.std.proofs.Common.{take}
use Rattle.feed_days.specs.Service.{SpansDays, give_once}
use Rattle.feed_days.proofs.span.added_span.Given as goal

abbrev pub invariant-loop-row : goal.invariant-loop-row
invariant-loop-row l = SpansDays (give_once (take l.row-index l.rows)) l.span
