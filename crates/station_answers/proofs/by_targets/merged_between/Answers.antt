use Rattle.std.proofs.Common.{◌≡◌, ◌++◌, ◌<◌, ◌∙◌, ℕ, List, Some, slice_get, length, reverse, take, sym, ap, subst, arith}
use Rattle.std.proofs.lemmas.Option.{slice_get-get_or, slice_get_within}
use Rattle.reasoning.proofs.ListLemmas.{at_contains}
use Rattle.reasoning.proofs.OptionLemmas.{on_err}
use Rattle.timetable.specs.TimetableValue.{TimetableValue}
use Rattle.scan_state.specs.SetQuery.{single_set_query, pair_of, question}
use Rattle.profile_scan.specs.Destinations.{CanBeAsked, query_from}
use Rattle.profile_scan.specs.Everywhere.{criterion_of_profiles, destination_of}
use Rattle.scan_state.specs.SetQuery.{CanScan}
use Rattle.profile_scan.specs.Window.{window}
use Rattle.profile_scan.specs.declared.destination.Destination.{Destination}
use Rattle.station_answers.specs.Asking.{destination_to}
use Rattle.station_answers.specs.Merging.{IsMerged}
use Rattle.station_answers.specs.Reading.{window_between}
use Rattle.station_answers.proofs.MergeLemmas.{next_target}
use Rattle.station_answers.proofs.ReadLemmas.{all_of_one, one_scan_more, part_of_one}
use Rattle.station_answers.proofs.by_targets.merged_between.Given as given
use Rattle.station_answers.proofs.by_targets.merged_between.Goals.{After-destination_to-destination}
use Rattle.station_answers.proofs.by_targets.merged_between.Goals as goal

-- the target is one of the question's
within : (g : given.Over) (c : After-destination_to-destination g) → c.loop-index.index < length c.args.query.now.targets.items
within g c = omega (arith, c.loop-index-test.true, c.len-index-end.ensures, c.args.query.now.targets.ok.0)

-- what is read of the window of one target is that of the question
same_window : (g : given.Over) (c : After-destination_to-destination g)
    → window (g.S.ConnSource.timetable c.loop-index.source) (query_from c.destination_to-destination.result c.destination_to-destination.result.target)
    ≡ window_between (g.S.ConnSource.timetable c.args.source.now) (question c.args.query.now)
same_window g c =
    ap (λ (x : TimetableValue). window x (query_from c.destination_to-destination.result c.destination_to-destination.result.target))
    c.loop-index.invariant.timetable
    ∙ ap (λ (d : Destination). window (g.S.ConnSource.timetable c.args.source.now) (query_from d d.target)) c.destination_to-destination.ensures

pub profiles_to-requires : goal.profiles_to-requires
profiles_to-requires g c =
    let here = (goal.at.profiles_to-requires g c).After-destination_to-destination in
    let t = g.S.ConnSource.timetable c.args.source.now in
    let b = question c.args.query.now in
    let target = c.index-target.result.now in
    let made : CanBeAsked (g.S.ConnSource.timetable c.args.source.now).stops (destination_to (question c.args.query.now) c.index-target.result.now) = record {
      target = c.requires.targets target (c.loop-index.index, within g here, sym c.index-target.ensures);
      window = c.requires.window;
      in_time = c.requires.in_time;
      small = c.requires.small;
    } in
    subst (λ (x : TimetableValue). CanBeAsked x.stops c.destination_to-destination.result) (sym c.loop-index.invariant.timetable)
    (subst (CanBeAsked t.stops) (sym c.destination_to-destination.ensures) made)

pub returns-in_err-profiles-clause-err : goal.returns-in_err-profiles-clause-err
returns-in_err-profiles-clause-err g c =
    let here = (goal.at.returns-in_err-profiles-clause-err g c).After-destination_to-destination in
    let log = g.S.ConnSource.log c.loop-index.source in
    let read = c.in_err-profiles.ensures.err in
    on_err c.from_residual.result _ (part_of_one (g.S.ConnSource.timetable c.args.source.now) (question c.args.query.now)
    (g.S.ConnSource.log c.args.source.now) log (g.S.ConnSource.log c.profiles_to.new.source) c.loop-index.index read.0 (within g here)
    c.loop-index.invariant.log (read.1 ∙ ap (λ (ks : List ℕ). log ++ take read.0 (reverse ks)) (same_window g here)))

pub returns-in_err-take_from_sources-clause-err : goal.returns-in_err-take_from_sources-clause-err
returns-in_err-take_from_sources-clause-err g c =
    let here = (goal.at.returns-in_err-take_from_sources-clause-err g c).After-destination_to-destination in
    let log = g.S.ConnSource.log c.loop-index.source in
    on_err c.from_residual-in_err-take_from_sources.result _ (all_of_one (g.S.ConnSource.timetable c.args.source.now) (question c.args.query.now)
    (g.S.ConnSource.log c.args.source.now) log (g.S.ConnSource.log c.profiles_to.new.source) c.loop-index.index (within g here)
    c.loop-index.invariant.log (c.in_ok-profiles.ensures.log ∙ ap (λ (ks : List ℕ). log ++ reverse ks) (same_window g here)))

pub loop-index-preserved : goal.loop-index-preserved
loop-index-preserved g c =
    let here = (goal.at.loop-index-preserved g c).After-destination_to-destination in
    let t = g.S.ConnSource.timetable c.args.source.now in
    let b = question c.args.query.now in
    let criterion = c.args.criterion.now in
    let used = criterion_of_profiles c.in_ok-profiles.profiles in
    let targets = c.args.query.now.targets in
    let target = c.index-target.result.now in
    let index = c.loop-index.index in
    let old = c.loop-index.merged in
    let new = c.take_from_sources.new.merged in
    let before = c.loop-index.invariant in
    let log = g.S.ConnSource.log c.loop-index.source in
    let now_is = c.in_ok-profiles.ensures.timetable ∙ before.timetable in
    let at : slice_get targets.items c.loop-index.index ≡ Some c.index-target.result.now =
    slice_get-get_or targets.items index target (within g here) ∙ ap Some (sym c.index-target.ensures) in
    let can : (s to : ℕ) → CanScan (g.S.ConnSource.timetable c.args.source.now) (single_set_query (pair_of (question c.args.query.now) s to)) =
    λ s to. record {
      legal = g.met.S.ConnSource.legal c.args.source.now;
      limits = g.met.S.ConnSource.limits c.args.source.now;
      in_time = c.requires.small.2;
    } in
    record {
      timetable = now_is;
      merged = subst (λ (x : TimetableValue). IsMerged g.C.Criterion.rules criterion x b new) now_is
          (subst (λ (k : g.row.C.Denot). IsMerged g.C.Criterion.rules k (g.S.ConnSource.timetable c.profiles_to.new.source) b new)
          c.in_ok-profiles.ensures.keeps.0
          c.in_ok-take_from_sources.ensures.merged);
      covers = next_target g.C.Criterion.rules criterion used (g.met.C.Criterion.laws criterion) t (g.S.ConnSource.timetable c.profiles_to.new.source) b can
          (destination_of c.in_ok-profiles.profiles) c.destination_to-destination.result index target old new now_is c.in_ok-profiles.ensures.keeps.0
          c.in_ok-profiles.ensures.keeps.1 c.destination_to-destination.ensures at c.in_ok-take_from_sources.ensures.kept
          c.in_ok-take_from_sources.ensures.covers before.covers;
      log = one_scan_more (g.S.ConnSource.log c.args.source.now) (reverse (window_between t b)) log (g.S.ConnSource.log c.profiles_to.new.source) index
          before.log
          (c.in_ok-profiles.ensures.log ∙ ap (λ (ks : List ℕ). log ++ reverse ks) (same_window g here));
    }

pub returns-clause-covers : goal.returns-clause-covers
returns-clause-covers g c = λ pair.
    let targets = c.args.query.now.targets in
    let at = at_contains targets.items pair.target pair.is_target in
    let inside = slice_get_within targets.items at.0 pair.target at.1 in
    c.loop-index.invariant.covers at.0 pair.target pair.source
    (omega (arith, inside, c.loop-index-test.false, c.len-index-end.ensures, targets.ok.0)) at.1 pair.is_source
