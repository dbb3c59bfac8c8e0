use Rattle.feed_days.proofs.Rows.{service_civil}
use Rattle.feed_days.proofs.listing.text_of.Goals as goal

pub append_span-requires-clause-first : goal.append_span-requires-clause-first
append_span-requires-clause-first c = service_civil c.args.feed.now c.in-Some.span.first c.in-Some.ensures.first.holds

pub append_span-requires-clause-last : goal.append_span-requires-clause-last
append_span-requires-clause-last c = service_civil c.args.feed.now c.in-Some.span.last c.in-Some.ensures.last.holds
