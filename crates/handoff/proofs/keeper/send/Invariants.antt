use Rattle.std.proofs.Common.{◌≡◌}
use Rattle.crossbeam_channel.specs.Claims.{IsSeatAt, view as view_of}
use Rattle.crossbeam_channel.specs.Ends.{sends_on}
use Rattle.handoff.proofs.keeper.send.Given as goal

-- what came back unsent is what was to be sent, and nothing was put
abbrev pub invariant-loop : goal.invariant-loop
invariant-loop g l = IsSeatAt (sends_on l.sender) l.pass × (l.pass.id ≡ l.fn.pass.id) × (view_of l.pass ≡ view_of l.fn.pass)
    × (l.message ≡ l.fn.message)
