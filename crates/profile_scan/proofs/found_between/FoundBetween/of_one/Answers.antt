use Rattle.std.proofs.Common.{ℕ, Option, sym, subst}
use Rattle.std.proofs.Math.Logic.{∥∥₁_map}
use Rattle.timetable.specs.declared.query.Query.{Query}
use Rattle.scan_state.specs.SetQuery.{SetQueryValue}
use Rattle.profile_scan.specs.Nodes.{spelling}
use Rattle.profile_scan.specs.Answered.{Answer, IsAnswered, IsAnsweredBetween}
use Rattle.profile_scan.proofs.Single.{answered_one}
use Rattle.profile_scan.proofs.found_between.FoundBetween.of_one.Goals as goal

-- that it answers is kept with the query that stands beside it
pub invariant_of-result : goal.invariant_of-result
invariant_of-result g c =
    let found = c.args.self in
    let rules = g.C.Criterion.rules found.criterion in
    let t = found.timetable.value in
    let points = found.points.items in
    let nodes = found.nodes.items in
    let at_walk = subst (λ (w : Option ℕ). Answer rules t c.args.query.now points nodes w) (sym c.secs_of.ensures)
    (∥∥₁_map found.answered (λ is. answered_one rules t c.args.query.now points nodes found.walk
    (subst (λ (b : SetQueryValue). IsAnsweredBetween rules t b points nodes found.walk) c.requires is))) in
    record { answered = subst (λ (q : Query). Answer rules t q points nodes c.secs_of.result) (sym c.of.ensures) at_walk }

pub returns : goal.returns
returns g c criterion t is =
    let found = c.args.self in
    let rules = g.C.Criterion.rules criterion in
    let answer = subst (λ (w : Option ℕ). IsAnswered rules t c.args.query.now found.points.items (spelling found.nodes.items).journey w) (sym c.secs_of.ensures)
    (answered_one rules t c.args.query.now found.points.items found.nodes.items found.walk is.answered) in
    record {
      answer = answer.answer;
      attained = answer.attained;
      direct = answer.direct;
      keeps = (is.keeps.0, is.keeps.1, c.of.ensures);
    }
