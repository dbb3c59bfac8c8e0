use Rattle.std.proofs.Common.{◌<◌, take, IfSome, MatchOption}
use Rattle.connections.specs.Repeats.{is_start}
use Rattle.connections.specs.Starts.{IsNever, IsNext}
use Rattle.connections.proofs.repeats.next_start.Given as goal

abbrev pub invariant-loop-row : goal.invariant-loop-row
invariant-loop-row l = record {
  next : MatchOption l.next (IsNever (is_start (take l.row-index l.rows)) l.from) (IsNext (is_start (take l.row-index l.rows)) l.from);
  room : IfSome l.next (λ start. start < 4294967295);
}
