use Rattle.std.proofs.Common.{◌≡◌, ◌+◌}
use Rattle.client_queue.proofs.dealing.close_for.Given as goal

-- the queue was closed for each of those before
abbrev pub invariant-loop-taker : goal.invariant-loop-taker
invariant-loop-taker g l =
    l.dealer ≡ record l.fn.dealer { view = record l.fn.dealer.view { closings = l.fn.dealer.view.closings + l._taker } }
