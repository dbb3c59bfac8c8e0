use Rattle.std.proofs.Common.{List, Option, subst, sym}
use Rattle.std.specs.Prelude.{IsSomeAnd}
use Rattle.clap.specs.Words.{Row, Text, found_of, rows_of}
use Rattle.command_line.specs.Requests.{IsRequest}
use Rattle.command_line.proofs.Entered.{entered_as, finds_by}
use Rattle.command_line.proofs.requests.request_in.Goals as goal

pub returns-in-Some : goal.returns-in-Some
returns-in-Some c =
    let entered = entered_as (λ name. name.now) (λ inner. rows_of (found_of inner.now)) _ _ c.subcommand.result _ c.in-Some.name c.in-Some.inner
    c.in-Some.is c.subcommand.ensures.name c.subcommand.ensures.rows in
    finds_by c.named_request.result _ _
    (λ request is. subst (λ (command : Option (Text × List Row)). IsSomeAnd command (λ x. IsRequest x.0 x.1 request)) (sym entered) is)
    (λ request is. subst (λ (command : Option (Text × List Row)). IsSomeAnd command (λ x. IsRequest x.0 x.1 request)) entered is)
    c.named_request.ensures
