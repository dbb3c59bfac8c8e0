use Rattle.std.proofs.Common.{◌≡◌, ◌⊎◌, Option, subst}
use Rattle.std.specs.declared.io.ErrorKind.{ErrorKind}
use Rattle.command_requests.specs.declared.statuses.TheConstants.{ACCEPTED, INPUT_OUTPUT, REFUSED}
use Rattle.csa_program.proofs.Unwritten.{text_unwritten_as}
use Rattle.csa_program.proofs.print_sources.Goals as goal
use Rattle.image_files.specs.Watching.{HasFault}

-- it ended as it would, or its output has a fault
pub returns-clause-ended : goal.returns-clause-ended
returns-clause-ended g c =
    let status = c.unless_unwritten-status in
    let ended = c.put_sources-printed.result in
    let kept = subst (λ (fault : Option ErrorKind). (status.result ≡ ended) ⊎ (((ended ≡ ACCEPTED) ⊎ (ended ≡ REFUSED)) × (status.result ≡ INPUT_OUTPUT)
    × HasFault fault)) c.fault.ensures status.ensures.kept in
    text_unwritten_as _ _ ended status.result _ _ kept c.put_sources-printed.ensures
