use Rattle.std.proofs.Common.{◌≡◌, ◌<◌, ◌∙◌, ℕ, Contains, Some, slice_get, length, sym, ap, subst, inl, inr, arith}
use Rattle.std.proofs.lemmas.Bool.{cases_lt}
use Rattle.std.proofs.lemmas.Option.{same_Some, slice_get-get_or, slice_get_within}
use Rattle.reasoning.proofs.ListLemmas.{at_contains}
use Rattle.criteria.specs.Laws.{Admits}
use Rattle.bags.specs.Bag.{points_of}
use Rattle.bags.specs.Dominance.{IsBag}
use Rattle.timetable.specs.declared.limits.TheConstants.{TIME_END}
use Rattle.scan_state.specs.SetQuery.{single_set_query, question}
use Rattle.profile_scan.specs.Destinations.{query_from}
use Rattle.profile_scan.specs.Everywhere.{criterion_of_profiles, destination_of}
use Rattle.scan_state.specs.SetQuery.{CanScan}
use Rattle.station_answers.specs.Merging.{CoversQuery, KeepsCovered, TakesFound}
use Rattle.station_answers.proofs.MergeLemmas.{answers_pair, listed_admitted, still_covers, take_covers, take_merged}
use Rattle.station_answers.proofs.by_targets.take_from_sources.Goals as goal

pub found_from-requires-clause-stop : goal.found_from-requires-clause-stop
found_from-requires-clause-stop g c =
    let sources = c.args.query.now.sources in
    let within : c.loop-index.index < length sources.items = omega (arith, c.loop-index-test.true, c.len-index-end.ensures, sources.ok.0) in
    c.requires.askable.sources c.index-stop.result.now (c.loop-index.index, within, sym c.index-stop.ensures)

pub found_from-requires-clause-differ : goal.found_from-requires-clause-differ
found_from-requires-clause-differ g c = λ same.
    let sources = c.args.query.now.sources in
    let within : c.loop-index.index < length sources.items = omega (arith, c.loop-index-test.true, c.len-index-end.ensures, sources.ok.0) in
    c.requires.askable.differ c.index-stop.result.now (c.loop-index.index, within, sym c.index-stop.ensures)
    (subst (Contains c.args.query.now.targets.items) (sym same) c.requires.target.leads)

pub take_in-requires : goal.take_in-requires
take_in-requires g c = λ p h.
    let criterion = criterion_of_profiles c.args.profiles.now in
    let d = destination_of c.args.profiles.now in
    let q = query_from d c.index-stop.result.now in
    let can : CanScan (g.S.ConnSource.timetable c.args.source.now)
    (single_set_query (query_from (destination_of c.args.profiles.now) c.index-stop.result.now)) = record {
      legal = g.met.S.ConnSource.legal c.args.source.now;
      limits = g.met.S.ConnSource.limits c.args.source.now;
      in_time = subst (λ (n : ℕ). n < TIME_END) (sym c.requires.target.times.2) c.requires.askable.small.2;
    } in
    subst (λ (k : g.row.C.Denot). Admits (g.C.Criterion.rules k) p.value) (sym c.loop-index.invariant.merged.under)
    (listed_admitted (g.C.Criterion.rules criterion) (g.met.C.Criterion.laws criterion) (g.S.ConnSource.timetable c.args.source.now) q can criterion
    c.in_ok-found.found c.in_ok-found.ensures p h)

pub loop-index-preserved : goal.loop-index-preserved
loop-index-preserved g c =
    let t = g.S.ConnSource.timetable c.args.source.now in
    let b = question c.args.query.now in
    let criterion = criterion_of_profiles c.args.profiles.now in
    let rules = g.C.Criterion.rules criterion in
    let laws = g.met.C.Criterion.laws criterion in
    let d = destination_of c.args.profiles.now in
    let stop = c.index-stop.result.now in
    let sources = c.args.query.now.sources in
    let index = c.loop-index.index in
    let found = c.in_ok-found.found in
    let old = c.loop-index.merged in
    let new = c.take_in.new.self in
    let before = c.loop-index.invariant in
    let within : c.loop-index.index < length sources.items = omega (arith, c.loop-index-test.true, c.len-index-end.ensures, sources.ok.0) in
    let is : Contains sources.items c.index-stop.result.now = (index, within, sym c.index-stop.ensures) in
    let at : slice_get sources.items c.loop-index.index ≡ Some c.index-stop.result.now =
    slice_get-get_or sources.items index stop within ∙ ap Some (sym c.index-stop.ensures) in
    let can : (s : ℕ) → CanScan (g.S.ConnSource.timetable c.args.source.now) (single_set_query (query_from (destination_of c.args.profiles.now) s)) =
    λ s. record {
      legal = g.met.S.ConnSource.legal c.args.source.now;
      limits = g.met.S.ConnSource.limits c.args.source.now;
      in_time = subst (λ (n : ℕ). n < TIME_END) (sym c.requires.target.times.2) c.requires.askable.small.2;
    } in
    let takes : TakesFound (g.C.Criterion.rules (criterion_of_profiles c.args.profiles.now)) found old new =
    subst (λ (k : g.row.C.Denot). TakesFound (g.C.Criterion.rules k) found old new) before.merged.under c.in_ok-take_in.ensures in
    let bag : IsBag (g.C.Criterion.rules (criterion_of_profiles c.args.profiles.now)) (points_of new.best) =
    subst (λ (k : g.row.C.Denot). IsBag (g.C.Criterion.rules k) (points_of new.best)) (takes.under ∙ before.merged.under) new.best.kept in
    let keeps : KeepsCovered (g.C.Criterion.rules (criterion_of_profiles c.args.profiles.now)) old new = takes.merges.kept in
    record {
      merged = take_merged g.C.Criterion.rules criterion t b rules found old new before.merged
          (answers_pair rules t b d stop criterion found c.requires.target is c.in_ok-found.ensures) takes;
      kept = λ departure v a covered. keeps departure v a (before.kept departure v a covered);
      covers = λ k s lt at_k. elim (cases_lt k index) [
        | inl low ↦ still_covers rules laws t (query_from d s) (can s) old new keeps (before.covers k s low at_k)
        | inr high ↦
            let same_k : k ≡ c.loop-index.index = omega (arith, lt, high) in
            let same : s ≡ c.index-stop.result.now = same_Some s stop (sym at_k ∙ (ap (λ (m : ℕ). slice_get sources.items m) same_k ∙ at)) in
            subst (λ (x : ℕ). CoversQuery rules t new (query_from d x)) (sym same)
            (take_covers rules laws t (query_from d stop) (can stop) criterion found old new bag
            (listed_admitted rules laws t (query_from d stop) (can stop) criterion found c.in_ok-found.ensures) c.in_ok-found.ensures takes)
      ];
    }

pub returns-clause-covers : goal.returns-clause-covers
returns-clause-covers g c = λ stop is.
    let sources = c.args.query.now.sources in
    let at = at_contains sources.items stop is in
    let within = slice_get_within sources.items at.0 stop at.1 in
    c.loop-index.invariant.covers at.0 stop (omega (arith, within, c.loop-index-test.false, c.len-index-end.ensures, sources.ok.0)) at.1
