use Rattle.std.proofs.Common.{◌+◌, List, refl, sym, subst, arith}
use Rattle.bags.specs.declared.point.Point.{Point}
use Rattle.scan_state.specs.Points.{IsAnswer, IsPoint}
use Rattle.profile_scan.specs.Found.{listed}
use Rattle.journeys.specs.Extracted.{Attains}
use Rattle.journeys.proofs.AnswerLemmas.{point_at}
use Rattle.journeys.proofs.ExtractedLemmas.{HaveJourneys, all_extracted, attains_tagless, no_journeys, one_more}
use Rattle.journeys.proofs.answering.departures_of.Goals as goal

pub loop-i-init : goal.loop-i-init
loop-i-init g c criterion t q answers =
    no_journeys (Attains (g.C.Criterion.rules criterion) t q) c.points-points.result.now c.in_ok-departures.departures.items
    c.in_ok-departures.ensures.items

pub loop-i-preserved : goal.loop-i-preserved
loop-i-preserved g c criterion t q answers =
    let attained = Attains (g.C.Criterion.rules criterion) t q in
    let points = c.points-points.result.now in
    let p = c.index-points-i.result in
    let there = point_at points points c.loop-i.i p refl (omega arith) c.index-points-i.is in
    let at = point_at (listed c.args.found.now) points c.loop-i.i p c.points-points.ensures (omega arith) c.index-points-i.is in
    subst (HaveJourneys attained points (c.loop-i.i + 1)) (sym c.in_ok-push.ensures.items)
    (one_more attained points c.loop-i.i c.loop-i.departures.items p c.in_ok-journey.journey (c.loop-i.invariant criterion t q answers) there
    (attains_tagless (g.C.Criterion.rules criterion) t q p c.in_ok-journey.journey (c.in_ok-journey.ensures.attains criterion t q p answers at)))

pub returns-clause-points : goal.returns-clause-points
returns-clause-points g c criterion t q answers =
    let rules = g.C.Criterion.rules criterion in
    let answer = subst (λ (ps : List (Point g.row.C-V.Denot)). IsAnswer rules t q ps) (sym c.points-points.ensures) answers.answer in
    all_extracted rules (IsPoint rules t q) (Attains rules t q) c.points-points.result.now c.loop-i.i c.loop-i.departures.items
    (c.loop-i.invariant criterion t q answers) (omega arith) answer

pub returns-clause-journeys : goal.returns-clause-journeys
returns-clause-journeys g c criterion t q answers = (c.loop-i.invariant criterion t q answers).each
