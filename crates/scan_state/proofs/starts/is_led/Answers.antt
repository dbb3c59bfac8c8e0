use Rattle.std.proofs.Common.{◌≡◌, ◌<◌, ℕ, sym, subst, arith}
use Rattle.reasoning.proofs.BoolLemmas.{where_true, where_false}
use Rattle.timetable.proofs.LegalLemmas.{Contains-At}
use Rattle.scan_state.specs.Starts.{IsFromMarked}
use Rattle.scan_state.proofs.StartLemmas.{NoStart, no_start_yet, no_start_more, not_led}
use Rattle.scan_state.proofs.starts.is_led.Goals as goal

pub loop-walk_index-init : goal.loop-walk_index-init
loop-walk_index-init g c = no_start_yet (g.S.ConnSource.timetable c.args.source.now) c.args.marked.now c.walks_into-begin.result.0

pub is_start-requires : goal.is_start-requires
is_start-requires g c =
    let from_in = ((g.met.S.ConnSource.legal c.args.source.now).ends_in_range c.loop-walk_index.walk_index c.footpath_into-walk.result
    c.footpath_into-walk.ensures).0 in
    subst (λ (n : ℕ). c.footpath_into-walk.result.from < n) (sym c.requires.long) from_in

pub loop-walk_index-preserved : goal.loop-walk_index-preserved
loop-walk_index-preserved g c =
    let walk = c.footpath_into-walk.result in
    no_start_more (g.S.ConnSource.timetable c.args.source.now) c.args.marked.now c.walks_into-begin.result.0 c.loop-walk_index.walk_index walk
    c.footpath_into-walk.ensures
    (where_false c.is_start.result (IsFromMarked c.args.marked.now walk) _ c.if-is_start.false c.is_start.ensures) c.loop-walk_index.invariant

-- one leads there
pub returns-then-is_start : goal.returns-then-is_start
returns-then-is_start g c =
    let t = g.S.ConnSource.timetable c.args.source.now in
    let walk = c.footpath_into-walk.result in
    let start = where_true c.is_start.result (IsFromMarked c.args.marked.now walk) _ c.if-is_start.true c.is_start.ensures in
    let leads = (c.walks_into-begin.ensures.exact c.loop-walk_index.walk_index walk c.footpath_into-walk.ensures).1
    (c.loop-walk_index.auto.walk_index, c.loop-walk_index-test.true) in
    (walk, Contains-At t.footpaths c.loop-walk_index.walk_index walk c.footpath_into-walk.ensures, start, leads)

pub returns : goal.returns
returns g c =
    let t = g.S.ConnSource.timetable c.args.source.now in
    let over = c.loop-walk_index-test.false in
    let within = c.loop-walk_index.auto.walk_index-end c.walks_into-begin.ensures.order in
    let at_end : c.loop-walk_index.walk_index ≡ c.walks_into-begin.result.1 = omega arith in
    not_led t c.args.marked.now c.args.stop c.walks_into-begin.result.0 c.walks_into-begin.result.1
    (λ k f at to. (c.walks_into-begin.ensures.exact k f at).0 to)
    (subst (NoStart t c.args.marked.now c.walks_into-begin.result.0) at_end c.loop-walk_index.invariant)
