use Rattle.feed_days.proofs.Spans.{both_spans}
use Rattle.feed_days.proofs.span.joined.Goals as goal

pub returns-in-Some-Some : goal.returns-in-Some-Some
returns-in-Some-Some c p q one other =
    both_spans p q c.in-Some-Some.one c.in-Some-Some.other (record { first = c.earlier.result; last = c.later.result })
    (rw c.in-Some-Some.is-0 at one) (rw c.in-Some-Some.is-1 at other)
    c.earlier.ensures.one c.earlier.ensures.other c.later.ensures.one c.later.ensures.other
