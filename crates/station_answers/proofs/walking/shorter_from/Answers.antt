use Rattle.std.proofs.Common.{◌≡◌, ◌+◌, ◌<◌, ◌∙◌, ℕ, Some, slice_get, length, sym, ap, subst, arith}
use Rattle.std.proofs.lemmas.Option.{slice_get-get_or}
use Rattle.scan_state.specs.SetQuery.{question}
use Rattle.station_answers.specs.Walks.{IsLeastBefore}
use Rattle.station_answers.proofs.WalkLemmas.{next_source, one_further}
use Rattle.station_answers.proofs.walking.shorter_from.Goals as goal

pub footpath_between-footpath-requires : goal.footpath_between-footpath-requires
footpath_between-footpath-requires g c =
    let targets = c.args.query.now.targets in
    let within : c.loop-other.other < length targets.items = omega (arith, c.loop-other-test.true, c.len-other-end.ensures, targets.ok.0) in
    c.requires.askable.targets c.index-to.result.now (c.loop-other.other, within, sym c.index-to.ensures)

pub loop-other-preserved : goal.loop-other-preserved
loop-other-preserved g c =
    let t = g.S.ConnSource.timetable c.args.source.now in
    let b = question c.args.query.now in
    let targets = c.args.query.now.targets in
    let sources = c.args.query.now.sources in
    let from = c.index-from.result.now in
    let to = c.index-to.result.now in
    let within : c.loop-other.other < length targets.items = omega (arith, c.loop-other-test.true, c.len-other-end.ensures, targets.ok.0) in
    let at_from : slice_get sources.items c.args.index ≡ Some from =
    slice_get-get_or sources.items c.args.index from c.requires.index ∙ ap Some (sym c.index-from.ensures) in
    let at_to : slice_get targets.items c.loop-other.other ≡ Some to =
    slice_get-get_or targets.items c.loop-other.other to within ∙ ap Some (sym c.index-to.ensures) in
    subst (IsLeastBefore t b c.args.index (c.loop-other.other + 1)) (sym c.shorter_of-next.ensures)
    (one_further t (g.met.S.ConnSource.legal c.args.source.now) b c.args.index c.loop-other.other from to at_from at_to c.loop-other.best
    c.footpath_between-footpath.result c.footpath_between-footpath.ensures c.loop-other.invariant)

pub returns : goal.returns
returns g c =
    let t = g.S.ConnSource.timetable c.args.source.now in
    let over = c.loop-other-test.false in
    let within = c.loop-other.auto.other-end in
    let b = question c.args.query.now in
    let at_end : c.loop-other.other ≡ length c.args.query.now.targets.items =
    omega (arith, over, within, c.len-other-end.ensures, c.args.query.now.targets.ok.0) in
    next_source t (g.met.S.ConnSource.legal c.args.source.now) b c.args.index c.loop-other.best
    (subst (λ (n : ℕ). IsLeastBefore t b c.args.index n c.loop-other.best) at_end c.loop-other.invariant)
