use Rattle.std.proofs.Common.{◌≡◌, ◌≤◌, take, length, vec_len}
use Rattle.std.specs.Vec.{vec_capacity}
use Rattle.version_core.specs.Runs.{Run, LeastRun}
use Rattle.version_core.proofs.sequence.run.Given as goal

abbrev pub invariant-loop-event : goal.invariant-loop-event
invariant-loop-event l = record {
  so_far : Run l.fn.core (take l.event-index l.events) l.replies.items l.core;
  least : LeastRun l.fn.core (take l.event-index l.events) l.replies.items l.core;
  as_many : vec_len l.replies ≡ l.event-index;
  room : length l.events ≤ vec_capacity l.replies;
}
