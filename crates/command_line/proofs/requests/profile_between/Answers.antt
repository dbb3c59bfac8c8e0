use Rattle.std.proofs.Common.{rules}
use Rattle.clap.specs.Words.{found_of, rows_of}
use Rattle.command_requests.specs.declared.requests.ProfileRequest.{ProfileRequest}
use Rattle.command_line.specs.Requests.{HasProfileOptions}
use Rattle.command_line.proofs.requests.profile_between.Goals as goal

pub returns-in_err-rows_at : goal.returns-in_err-rows_at
returns-in_err-rows_at c =
    let none : (request : ProfileRequest) → ¬ (HasProfileOptions (rows_of (found_of c.args.matches.now)) request) =
    λ request has. c.in_err-rows_at.ensures request.rows has.5 in
    search rules
