use Rattle.std.proofs.Common.{◌≡◌, ◌<◌, ℕ, Some, map, get_or, sym, ◌∙◌, ap, subst, arith}
use Rattle.std.proofs.lemmas.List.{length-map}
use Rattle.std.proofs.lemmas.Option.{slice_get-get_or}
use Rattle.reasoning.proofs.ListLemmas.{contains_at}
use Rattle.scan_state.specs.ScanState.{final_walk_in}
use Rattle.scan_state.specs.Nearest.{AreNearest}
use Rattle.scan_state.proofs.FinalWalkLemmas.{IsDonePart, target_begins, target_goes_on, target_ends}
use Rattle.scan_state.proofs.final_walks.take_target.Goals as goal

pub walks_into-begin-requires : goal.walks_into-begin-requires
walks_into-begin-requires g c = c.requires.targets (get_or c.args.targets.now c.args.k 0)
    (contains_at c.args.targets.now c.args.k (get_or c.args.targets.now c.args.k 0) (slice_get-get_or c.args.targets.now c.args.k 0 c.requires.k))

pub footpath_into-walk-requires-clause-stop : goal.footpath_into-walk-requires-clause-stop
footpath_into-walk-requires-clause-stop g c = c.requires.targets (get_or c.args.targets.now c.args.k 0)
    (contains_at c.args.targets.now c.args.k (get_or c.args.targets.now c.args.k 0) (slice_get-get_or c.args.targets.now c.args.k 0 c.requires.k))

pub loop-walk_index-init : goal.loop-walk_index-init
loop-walk_index-init g c = target_begins (g.S.ConnSource.timetable c.args.source.now) c.args.targets.now c.args.k c.walks_into-begin.result.0
    (map final_walk_in c.args.entries.now.items) c.requires.before

pub take_walk-requires-clause-from : goal.take_walk-requires-clause-from
take_walk-requires-clause-from g c =
    let from_in = ((g.met.S.ConnSource.legal c.args.source.now).ends_in_range c.loop-walk_index.walk_index c.footpath_into-walk.result
    c.footpath_into-walk.ensures).0 in
    subst (λ (n : ℕ). c.footpath_into-walk.result.from < n) (sym c.loop-walk_index.invariant.long ∙ length-map c.loop-walk_index.entries.items final_walk_in)
    from_in

pub take_walk-requires-clause-secs : goal.take_walk-requires-clause-secs
take_walk-requires-clause-secs g c = (g.met.S.ConnSource.limits c.args.source.now).walks c.loop-walk_index.walk_index c.footpath_into-walk.result
    c.footpath_into-walk.ensures

pub loop-walk_index-preserved : goal.loop-walk_index-preserved
loop-walk_index-preserved g c =
    let t = g.S.ConnSource.timetable c.args.source.now in
    let at = c.footpath_into-walk.ensures in
    let walk = c.footpath_into-walk.result in
    let to : walk.to ≡ get_or c.args.targets.now c.args.k 0 =
    (c.walks_into-begin.ensures.exact c.loop-walk_index.walk_index walk at).1 (c.loop-walk_index.auto.walk_index, c.loop-walk_index-test.true) in
    target_goes_on t c.args.targets.now c.args.k c.walks_into-begin.result.0 c.loop-walk_index.walk_index walk c.loop-walk_index.auto.walk_index at
    (slice_get-get_or c.args.targets.now c.args.k 0 c.requires.k ∙ ap Some (sym to)) (map final_walk_in c.loop-walk_index.entries.items)
    (map final_walk_in c.take_walk.new.entries.items) c.loop-walk_index.invariant c.take_walk.ensures

pub returns : goal.returns
returns g c =
    let t = g.S.ConnSource.timetable c.args.source.now in
    let over = c.loop-walk_index-test.false in
    let within = c.loop-walk_index.auto.walk_index-end c.walks_into-begin.ensures.order in
    let at_end : c.loop-walk_index.walk_index ≡ c.walks_into-begin.result.1 = omega arith in
    let begin = c.walks_into-begin.result.0 in
    target_ends t c.args.targets.now c.args.k (get_or c.args.targets.now c.args.k 0) begin c.walks_into-begin.result.1
    (slice_get-get_or c.args.targets.now c.args.k 0 c.requires.k)
    (λ k f at to. (c.walks_into-begin.ensures.exact k f at).0 to) (map final_walk_in c.loop-walk_index.entries.items)
    (subst (λ (n : ℕ). AreNearest t (IsDonePart t c.args.targets.now c.args.k begin n) (map final_walk_in c.loop-walk_index.entries.items)) at_end
    c.loop-walk_index.invariant)
