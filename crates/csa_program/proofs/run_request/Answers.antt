-- A table's end, and that of a build, is that of its request.
use Rattle.std.proofs.Common.{◌≡◌, rules}
use Rattle.command_requests.specs.declared.requests.CommandRequest.TheVariants.{Build, Matrix}
use Rattle.csa_program.proofs.run_request.Goals as goal

pub returns-in-Matrix-clause-ended : goal.returns-in-Matrix-clause-ended
returns-in-Matrix-clause-ended g c =
    let asks : c.args.request ≡ Matrix c.in-Matrix.request = search rules in
    rw asks c.matrix_over.ensures.ended

pub returns-in-Build-clause-ended : goal.returns-in-Build-clause-ended
returns-in-Build-clause-ended g c =
    let asks : c.args.request ≡ Build c.in-Build.request = search rules in
    rw asks c.run-in-Build.ensures
