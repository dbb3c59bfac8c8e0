use Rattle.std.proofs.Common.{◌≡◌, inr, rules}
use Rattle.command_requests.specs.declared.statuses.TheConstants.{ACCEPTED}
use Rattle.csa_program.proofs.ServerEnds.{port_printed}
use Rattle.csa_program.proofs.serve.serve_named.Goals as goal

pub returns-in-Some : goal.returns-in-Some
returns-in-Some g c =
    let begun = c.tell_port-begun in
    let accepted : begun.result ≡ ACCEPTED = search rules in
    let printed = port_printed c.args.bound.port begun.result _ _ _ begun.ensures accepted in
    inr (_, _, c.in-Some.end.hosted, c.tell_served.ensures c.args.bound.port _ printed)

-- the image that is shown is the one that is served
pub invariant_of-pending : goal.invariant_of-pending
invariant_of-pending g c = record { named = λ ends is_deaf hosted. c.requires.named ends is_deaf (rw (← c.of-shown.ensures) hosted) }
