use Rattle.std.proofs.Common.{map}
use Rattle.scan_state.specs.ScanState.{final_walk_in}
use Rattle.scan_state.specs.Nearest.{AreNearest, IsDoneTo}
use Rattle.scan_state.proofs.final_walks.final_walks_to.Given as goal

abbrev pub invariant-loop-k : goal.invariant-loop-k
invariant-loop-k g l =
    let t = g.S.ConnSource.timetable l.source in
    AreNearest t (IsDoneTo t l.targets l.k) (map final_walk_in l.entries.items)
