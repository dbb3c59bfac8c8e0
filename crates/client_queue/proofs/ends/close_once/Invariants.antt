use Rattle.std.proofs.Common.{◌≡◌}
use Rattle.client_queue.proofs.ends.close_once.Given as goal

-- nothing was put yet
abbrev pub invariant-loop : goal.invariant-loop
invariant-loop g l = l.keeper ≡ l.fn.keeper
