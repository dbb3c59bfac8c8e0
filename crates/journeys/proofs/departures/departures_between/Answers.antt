use Rattle.std.proofs.Common.{◌+◌, List, refl, sym, subst, arith}
use Rattle.bags.specs.declared.point.Point.{Point}
use Rattle.scan_state.specs.SetQuery.{IsAnswerBetween, IsPointBetween}
use Rattle.profile_scan.specs.Found.{listed_between}
use Rattle.journeys.specs.Extracted.{AttainsBetween}
use Rattle.journeys.proofs.AnswerLemmas.{point_at}
use Rattle.journeys.proofs.ExtractedLemmas.{HaveJourneys, all_extracted, between_tagless, no_journeys, one_more}
use Rattle.journeys.proofs.departures.departures_between.Goals as goal

pub loop-i-init : goal.loop-i-init
loop-i-init g c criterion t b answers =
    no_journeys (AttainsBetween (g.C.Criterion.rules criterion) t b) c.points-points.result.now c.in_ok-departures.departures.items
    c.in_ok-departures.ensures.items

pub loop-i-preserved : goal.loop-i-preserved
loop-i-preserved g c criterion t b answers =
    let rules = g.C.Criterion.rules criterion in
    let departures = AttainsBetween rules t b in
    let points = c.points-points.result.now in
    let p = c.index-points-i.result in
    let there = point_at points points c.loop-i.i p refl (omega arith) c.index-points-i.is in
    let at = point_at (listed_between c.args.found.now) points c.loop-i.i p c.points-points.ensures (omega arith) c.index-points-i.is in
    let attains = c.in_ok-journey.ensures.attains criterion t b p answers at in
    subst (HaveJourneys departures points (c.loop-i.i + 1)) (sym c.in_ok-push.ensures.items)
    (one_more departures points c.loop-i.i c.loop-i.departures.items p c.in_ok-journey.journey (c.loop-i.invariant criterion t b answers) there
    (between_tagless rules t b p c.in_ok-journey.journey attains))

pub returns-clause-points : goal.returns-clause-points
returns-clause-points g c criterion t b answers =
    let rules = g.C.Criterion.rules criterion in
    let answer = subst (λ (ps : List (Point g.row.C-V.Denot)). IsAnswerBetween rules t b ps) (sym c.points-points.ensures) answers.answered.tagged.answer in
    all_extracted rules (IsPointBetween rules t b) (AttainsBetween rules t b) c.points-points.result.now c.loop-i.i c.loop-i.departures.items
    (c.loop-i.invariant criterion t b answers) (omega arith) answer

pub returns-clause-journeys : goal.returns-clause-journeys
returns-clause-journeys g c criterion t b answers = (c.loop-i.invariant criterion t b answers).each
