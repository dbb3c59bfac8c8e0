use Rattle.std.proofs.Common.{arith}
use Rattle.reasoning.proofs.OptionLemmas.{on_err}
use Rattle.version_core.proofs.Runs.{run_take, least_take, stopped_at}
use Rattle.version_core.proofs.sequence.run.Goals as goal

pub returns-in_err-reply-clause-stopped : goal.returns-in_err-reply-clause-stopped
returns-in_err-reply-clause-stopped c =
    on_err _ _ (stopped_at c.args.core.now _ _ c.args.events.now c.loop-event.event-index _ _ (omega arith)
    c.loop-event.invariant.so_far c.loop-event.invariant.least c.in_err-reply.ensures.memory
    c.in_err-reply.ensures.same)

pub loop-event-preserved : goal.loop-event-preserved
loop-event-preserved c = record {
  so_far = rw c.push_reserved.ensures.items
      (run_take _ c.args.events.now c.loop-event.event-index _ _ _ _ _ (omega arith) c.loop-event.invariant.so_far
      c.in_ok-reply.ensures.step);
  least = rw c.push_reserved.ensures.items (least_take _ c.args.events.now c.loop-event.event-index _ _ _ _ _
      (omega arith) c.loop-event.invariant.least c.in_ok-reply.ensures.step c.in_ok-reply.ensures.least);
  as_many = (let a = c.loop-event.invariant.as_many in omega arith);
  room = (let a = c.loop-event.invariant.room in omega arith);
}
