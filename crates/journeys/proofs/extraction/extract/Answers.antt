use Rattle.std.proofs.Common.{◌≡◌, ◌<◌, length, Some, slice_get, sym, subst}
use Rattle.std.proofs.Math.Logic.{∥∥₁_map}
use Rattle.profile_scan.specs.Found.{criterion_of_found, listed, nodes_of, query_of, timetable_of}
use Rattle.profile_scan.specs.Nodes.{spelled}
use Rattle.journeys.proofs.AnswerLemmas.{point_at}
use Rattle.journeys.proofs.SpellLemmas.{some_is, none_is, answers_its_own, attains, always_spelled}
use Rattle.journeys.proofs.extraction.extract.Given as given
use Rattle.journeys.proofs.extraction.extract.Goals as goal
use Rattle.journeys.proofs.extraction.extract.Goals.{In_ok-journey}

-- the point whose journey is extracted
here : (g : given.Over) (c : goal.In_ok-journey g) → slice_get (listed c.args.found.now) c.args.i ≡ Some c.index-points-i.result
here g c =
    let points = c.points-points.result.now in
    let same = c.points-points.ensures in
    point_at (listed c.args.found.now) points c.args.i c.index-points-i.result same
    (subst (λ ps. c.args.i < length ps) (sym same) c.requires) c.index-points-i.is

pub returns-in-Some-clause-attains : goal.returns-in-Some-clause-attains
returns-in-Some-clause-attains g c criterion t q p answers at =
    attains criterion (g.C.Criterion.rules criterion) t q c.args.found.now c.args.i p c.index-points-i.result c.in-Some.journey
    (here g (goal.at.returns-in-Some-clause-attains g c).In_ok-journey)
    (some_is (λ j. j) (spelled (nodes_of c.args.found.now) c.index-points-i.result.tag).journey c.in_ok-journey.field-0 c.in-Some.journey c.in-Some.is
    c.in_ok-journey.ensures)
    answers at

pub returns-in-Some-clause-kept : goal.returns-in-Some-clause-kept
returns-in-Some-clause-kept g c p at =
    let found = c.args.found.now in
    let rules = g.C.Criterion.rules (criterion_of_found found) in
    let spells = some_is (λ j. j) (spelled (nodes_of found) c.index-points-i.result.tag).journey c.in_ok-journey.field-0 c.in-Some.journey c.in-Some.is
    c.in_ok-journey.ensures in
    let there = here g (goal.at.returns-in-Some-clause-kept g c).In_ok-journey in
    ∥∥₁_map found.answered (λ is. attains (criterion_of_found found) rules (timetable_of found)
    (query_of found) found c.args.i p c.index-points-i.result c.in-Some.journey there spells (answers_its_own rules found is) at)

pub returns-in-None-clause-attains : goal.returns-in-None-clause-attains
returns-in-None-clause-attains g c criterion t q p answers at =
    absurd (always_spelled criterion (g.C.Criterion.rules criterion) t q c.args.found.now c.args.i p c.index-points-i.result
    (here g (goal.at.returns-in-None-clause-attains g c).In_ok-journey)
    (none_is (λ j. j) (spelled (nodes_of c.args.found.now) c.index-points-i.result.tag).journey c.in_ok-journey.field-0 c.in-None.is c.in_ok-journey.ensures)
    answers at)

pub returns-in-None-clause-kept : goal.returns-in-None-clause-kept
returns-in-None-clause-kept g c p at =
    let found = c.args.found.now in
    let rules = g.C.Criterion.rules (criterion_of_found found) in
    let spells = none_is (λ j. j) (spelled (nodes_of found) c.index-points-i.result.tag).journey c.in_ok-journey.field-0 c.in-None.is c.in_ok-journey.ensures in
    let there = here g (goal.at.returns-in-None-clause-kept g c).In_ok-journey in
    ∥∥₁_map found.answered (λ is. absurd (always_spelled (criterion_of_found found) rules (timetable_of found)
    (query_of found) found c.args.i p c.index-points-i.result there spells (answers_its_own rules found is) at))
