use Rattle.std.proofs.Common.{Contains, sym, ◌∙◌, ap, subst}
use Rattle.reasoning.proofs.ListLemmas.{contains_only}
use Rattle.timetable.specs.declared.query.Query.{Query}
use Rattle.scan_state.specs.SetQuery.{SetQueryValue, single_set_query}
use Rattle.profile_scan.specs.Found.{Answers, AnswersBetween}
use Rattle.scan_state.specs.Origins.{from_stop}
use Rattle.profile_scan.specs.Everywhere.{criterion_of_profiles, destination_of}
use Rattle.profile_scan.proofs.profiles.Profiles.found_from.Goals as goal

pub found_from-requires-clause-differ : goal.found_from-requires-clause-differ
found_from-requires-clause-differ g c is = c.requires.differ (contains_only (destination_of c.args.self.now).target c.args.stop
    (subst (λ (b : SetQueryValue). Contains b.targets c.args.stop) c.requires.answered.asked is))

-- what was asked from the stop is the query from it
pub of_one-requires : goal.of_one-requires
of_one-requires g c =
    c.in_ok-found.ensures.keeps.2 ∙ ap (λ (b : SetQueryValue). from_stop b c.args.stop) c.requires.answered.asked
    ∙ ap single_set_query (sym c.query_from-query.ensures)

pub returns : goal.returns
returns g c =
    let t = g.S.ConnSource.timetable c.args.source.now in
    let criterion = criterion_of_profiles c.args.self.now in
    let rules = g.C.Criterion.rules criterion in
    let same = ap (λ (b : SetQueryValue). from_stop b c.args.stop) c.requires.answered.asked ∙ ap single_set_query (sym c.query_from-query.ensures) in
    subst (λ (q : Query). Answers criterion rules t q c.of_one.result) c.query_from-query.ensures
    (c.of_one.ensures criterion t (subst (λ (b : SetQueryValue). AnswersBetween criterion rules t b c.in_ok-found.found) same c.in_ok-found.ensures))
