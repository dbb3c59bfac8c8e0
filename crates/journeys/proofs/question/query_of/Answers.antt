use Rattle.std.proofs.Common.{ℕ, refl, subst}
use Rattle.timetable.specs.Queries.{IsFirstFault}
use Rattle.timetable.specs.declared.query.Query.{Query}
use Rattle.journeys.specs.Questions.{Asks}
use Rattle.journeys.proofs.QuestionLemmas.{refused_by}
use Rattle.journeys.proofs.question.query_of.Goals as goal

pub returns-in-Err : goal.returns-in-Err
returns-in-Err c =
    let window = c.args.window in
    let q : Query = record { source = c.in-Some.source; target = c.in-Some-find.target; from = window.from; until = window.until; by = window.by } in
    let asks : Asks c.args.image.now.names c.args.from.now c.args.to.now c.args.window q = record {
      source = (c.in-Some.ensures.found, c.in-Some.ensures.least);
      target = (c.in-Some-find.ensures.found, c.in-Some-find.ensures.least);
      times = (refl, refl, refl);
    } in
    let is = subst (λ (stops : ℕ). IsFirstFault stops q c.in-Err.fault) c.stops.ensures.stops c.in-Err.ensures.fault in
    refused_by c.args.image.now c.args.from.now c.args.to.now window q c.in-Err.fault c.stops.ensures.kept asks is
