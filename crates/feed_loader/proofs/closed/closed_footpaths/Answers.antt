use Rattle.feed_loader.proofs.ClosedLemmas.{closure_of_feed, fault_of_feed, loops_of_stops, too_many}
use Rattle.feed_loader.proofs.closed.closed_footpaths.Goals as goal

pub close-requires-clause-loops : goal.close-requires-clause-loops
close-requires-clause-loops c = loops_of_stops _ _ _ _ c.requires c.deref.ensures.value c.in-Ok.ensures.all.loops

pub returns-in-Ok-clause-closure : goal.returns-in-Ok-clause-closure
returns-in-Ok-clause-closure c = closure_of_feed _ _ _ c.close.result c.deref.ensures.value c.in-Ok.ensures.all.times
    c.in-Ok.ensures.all.in_order c.close.ensures.closure

pub returns-in-Ok-clause-fault : goal.returns-in-Ok-clause-fault
returns-in-Ok-clause-fault c = fault_of_feed _ _ _ c.close.result c.deref.ensures.value c.in-Ok.ensures.all.times
    c.in-Ok.ensures.all.in_order c.close.ensures.fault

-- so many footpaths are listed
pub returns-in-Err-TooMany-clause-fault : goal.returns-in-Err-TooMany-clause-fault
returns-in-Err-TooMany-clause-fault c = too_many c.args.feed.now (c.in-Err-TooMany.ensures.many c.in-Err-TooMany.field-0-is)
