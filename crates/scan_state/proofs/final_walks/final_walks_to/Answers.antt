use Rattle.std.proofs.Common.{◌≡◌, ℕ, length, map, subst, arith}
use Rattle.scan_state.specs.ScanState.{final_walk_in}
use Rattle.scan_state.specs.Nearest.{AreNearest, IsDoneTo}
use Rattle.scan_state.proofs.FinalWalkLemmas.{none_found, none_in_words, all_found}
use Rattle.scan_state.proofs.final_walks.final_walks_to.Goals as goal

pub loop-k-init : goal.loop-k-init
loop-k-init g c = none_found (g.S.ConnSource.timetable c.args.source.now) c.args.targets.now c.stops.result
    (map final_walk_in c.in_ok-entries.entries.items) c.stops.ensures (none_in_words c.stops.result c.in_ok-entries.entries.items c.in_ok-entries.ensures)

pub take_target-requires-clause-before : goal.take_target-requires-clause-before
take_target-requires-clause-before g c = c.loop-k.invariant

pub loop-k-preserved : goal.loop-k-preserved
loop-k-preserved g c = c.take_target.ensures

pub returns : goal.returns
returns g c =
    let t = g.S.ConnSource.timetable c.args.source.now in
    let over = c.loop-k-test.false in
    let within = c.loop-k.auto.k-end in
    let at_end : c.loop-k.k ≡ length c.args.targets.now = omega arith in
    all_found t (g.met.S.ConnSource.legal c.args.source.now) c.args.targets.now (map final_walk_in c.loop-k.entries.items)
    (subst (λ (n : ℕ). AreNearest t (IsDoneTo t c.args.targets.now n) (map final_walk_in c.loop-k.entries.items)) at_end c.loop-k.invariant)
