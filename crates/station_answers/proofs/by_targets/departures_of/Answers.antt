use Rattle.std.proofs.Common.{◌≡◌, ◌+◌, ◌<◌, ◌≤◌, ◌∙◌, length, Some, slice_get, sym, ap, subst, arith}
use Rattle.std.proofs.lemmas.Option.{slice_get-get_or}
use Rattle.bags.specs.Bag.{criterion_of, points_of}
use Rattle.bags.specs.Dominance.{IsBag}
use Rattle.scan_state.specs.SetQuery.{IsPointBetween, question}
use Rattle.scan_state.specs.SetQuery.{CanScan}
use Rattle.profile_scan.proofs.OrderLemmas.{listed_bag}
use Rattle.journeys.proofs.ExtractedLemmas.{HaveJourneys, all_extracted, no_journeys, one_more}
use Rattle.station_answers.specs.Attaining.{AttainsPair}
use Rattle.station_answers.specs.Merging.{IsMerged}
use Rattle.station_answers.proofs.MergeLemmas.{merged_answers}
use Rattle.station_answers.proofs.TellLemmas.{pair_tagless}
use Rattle.station_answers.proofs.by_targets.departures_of.Goals as goal

pub loop-index-init : goal.loop-index-init
loop-index-init g c = no_journeys
    (AttainsPair (g.C.Criterion.rules c.args.criterion.now) (g.S.ConnSource.timetable c.args.source.now) (question c.args.query.now))
    c.in_ok-points.points.items c.in_ok-departures.departures.items c.in_ok-departures.ensures.items

pub journey_of-requires : goal.journey_of-requires
journey_of-requires g c =
    let points = c.in_ok-points.points in
    let p = c.index.result.now in
    let within : c.loop-index.index < length points.items = omega (arith, c.loop-index-test.true, c.len-index-end.ensures, points.ok.0) in
    c.requires.merged.points p (c.in_ok-points.ensures.only p (c.loop-index.index, within, sym c.index.ensures))

pub loop-index-preserved : goal.loop-index-preserved
loop-index-preserved g c =
    let t = g.S.ConnSource.timetable c.args.source.now in
    let b = question c.args.query.now in
    let rules = g.C.Criterion.rules c.args.criterion.now in
    let merged = c.args.merged.now in
    let points = c.in_ok-points.points in
    let p = c.index.result.now in
    let index = c.loop-index.index in
    let within : c.loop-index.index < length points.items = omega (arith, c.loop-index-test.true, c.len-index-end.ensures, points.ok.0) in
    let at : slice_get points.items c.loop-index.index ≡ Some c.index.result.now =
    slice_get-get_or points.items index p within ∙ ap Some (sym c.index.ensures) in
    let own : IsMerged g.C.Criterion.rules (criterion_of merged.best) t b merged =
    subst (λ (k : g.row.C.Denot). IsMerged g.C.Criterion.rules k t b merged) (sym c.requires.merged.under) c.requires.merged in
    let attains : AttainsPair (g.C.Criterion.rules c.args.criterion.now) t b p c.in_ok-journey.journey =
    subst (λ (k : g.row.C.Denot). AttainsPair (g.C.Criterion.rules k) t b p c.in_ok-journey.journey) c.requires.merged.under
    (c.in_ok-journey.ensures t b own) in
    let departures = AttainsPair rules t b in
    subst (HaveJourneys departures points.items (index + 1)) (sym c.in_ok-push.ensures.items)
    (one_more departures points.items index c.loop-index.departures.items p c.in_ok-journey.journey c.loop-index.invariant at
    (pair_tagless rules t b p c.in_ok-journey.journey attains))

pub returns-clause-points : goal.returns-clause-points
returns-clause-points g c =
    let t = g.S.ConnSource.timetable c.args.source.now in
    let b = question c.args.query.now in
    let criterion = c.args.criterion.now in
    let rules = g.C.Criterion.rules criterion in
    let laws = g.met.C.Criterion.laws criterion in
    let merged = c.args.merged.now in
    let points = c.in_ok-points.points in
    let past : length points.items ≤ c.loop-index.index = omega (arith, c.loop-index-test.false, c.len-index-end.ensures, points.ok.0) in
    let can : CanScan (g.S.ConnSource.timetable c.args.source.now) (question c.args.query.now) = record {
      legal = g.met.S.ConnSource.legal c.args.source.now;
      limits = g.met.S.ConnSource.limits c.args.source.now;
      in_time = c.requires.askable.small.2;
    } in
    let found : IsBag (g.C.Criterion.rules c.args.criterion.now) (points_of merged.best) =
    subst (λ (k : g.row.C.Denot). IsBag (g.C.Criterion.rules k) (points_of merged.best)) c.requires.merged.under merged.best.kept in
    let bag = listed_bag rules laws (points_of merged.best) points.items found c.in_ok-points.ensures.ordered c.in_ok-points.ensures.only in
    all_extracted rules (IsPointBetween rules t b) (AttainsPair rules t b) points.items c.loop-index.index c.loop-index.departures.items c.loop-index.invariant
    past
    (merged_answers g.C.Criterion.rules criterion laws t b can merged points.items c.requires.merged c.requires.covers bag c.in_ok-points.ensures.ordered
    c.in_ok-points.ensures.only c.in_ok-points.ensures.each)
