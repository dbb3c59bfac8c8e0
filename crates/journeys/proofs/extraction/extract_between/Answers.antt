use Rattle.std.proofs.Math.Logic.{∥∥₁_map}
use Rattle.profile_scan.specs.Found.{criterion_between, nodes_between, query_between, timetable_between}
use Rattle.profile_scan.specs.Nodes.{spelled}
use Rattle.journeys.proofs.SpellLemmas.{some_is, none_is, between_answers_its_own, between_attains, between_always_spelled}
use Rattle.journeys.proofs.extraction.extract_between.Goals as goal

pub returns-in-Some-clause-attains : goal.returns-in-Some-clause-attains
returns-in-Some-clause-attains g c criterion t b p answers at =
    between_attains criterion (g.C.Criterion.rules criterion) t b c.args.found.now c.args.i p c.point-point.result c.in-Some.journey
    c.point-point.ensures
    (some_is (λ j. j) (spelled (nodes_between c.args.found.now) c.point-point.result.tag).journey c.in_ok-journey.field-0 c.in-Some.journey c.in-Some.is
    c.in_ok-journey.ensures)
    answers at

pub returns-in-Some-clause-kept : goal.returns-in-Some-clause-kept
returns-in-Some-clause-kept g c p at =
    let found = c.args.found.now in
    let rules = g.C.Criterion.rules (criterion_between found) in
    let spells = some_is (λ j. j) (spelled (nodes_between found) c.point-point.result.tag).journey c.in_ok-journey.field-0 c.in-Some.journey c.in-Some.is
    c.in_ok-journey.ensures in
    let there = c.point-point.ensures in
    ∥∥₁_map found.answered (λ is. between_attains (criterion_between found) rules (timetable_between found)
    (query_between found) found c.args.i p c.point-point.result c.in-Some.journey there spells (between_answers_its_own rules found is) at)

pub returns-in-None-clause-attains : goal.returns-in-None-clause-attains
returns-in-None-clause-attains g c criterion t b p answers at =
    absurd (between_always_spelled criterion (g.C.Criterion.rules criterion) t b c.args.found.now c.args.i p c.point-point.result
    c.point-point.ensures
    (none_is (λ j. j) (spelled (nodes_between c.args.found.now) c.point-point.result.tag).journey c.in_ok-journey.field-0 c.in-None.is c.in_ok-journey.ensures)
    answers at)

pub returns-in-None-clause-kept : goal.returns-in-None-clause-kept
returns-in-None-clause-kept g c p at =
    let found = c.args.found.now in
    let rules = g.C.Criterion.rules (criterion_between found) in
    let spells = none_is (λ j. j) (spelled (nodes_between found) c.point-point.result.tag).journey c.in_ok-journey.field-0 c.in-None.is
    c.in_ok-journey.ensures in
    let there = c.point-point.ensures in
    ∥∥₁_map found.answered (λ is. absurd (between_always_spelled (criterion_between found) rules (timetable_between found)
    (query_between found) found c.args.i p c.point-point.result there spells (between_answers_its_own rules found is) at))
