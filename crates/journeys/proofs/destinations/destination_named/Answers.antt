use Rattle.std.proofs.Common.{ℕ, refl, subst}
use Rattle.profile_scan.specs.Destinations.{IsDestinationFault}
use Rattle.profile_scan.specs.declared.destination.Destination.{Destination}
use Rattle.journeys.specs.Questions.{AsksAll}
use Rattle.journeys.proofs.QuestionLemmas.{refused_of_all}
use Rattle.journeys.proofs.destinations.destination_named.Goals as goal

pub returns-in-Err : goal.returns-in-Err
returns-in-Err c =
    let window = c.args.window in
    let d : Destination = record { target = c.in-Some.target; from = window.from; until = window.until; by = window.by } in
    let asks : AsksAll c.args.image.now.names c.args.to.now c.args.window d =
    record { target = (c.in-Some.ensures.found, c.in-Some.ensures.least); times = (refl, refl, refl) } in
    let is = subst (λ (stops : ℕ). IsDestinationFault stops d c.in-Err.fault) c.stops.ensures.stops c.in-Err.ensures.fault in
    refused_of_all c.args.image.now c.args.to.now c.args.window d c.in-Err.fault c.stops.ensures.kept asks is
