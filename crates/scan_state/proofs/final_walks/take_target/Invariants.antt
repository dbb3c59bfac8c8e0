use Rattle.std.proofs.Common.{map}
use Rattle.scan_state.specs.ScanState.{final_walk_in}
use Rattle.scan_state.specs.Nearest.{AreNearest}
use Rattle.scan_state.proofs.FinalWalkLemmas.{IsDonePart}
use Rattle.scan_state.proofs.final_walks.take_target.Given as goal

abbrev pub invariant-loop-walk_index : goal.invariant-loop-walk_index
invariant-loop-walk_index g l =
    let t = g.S.ConnSource.timetable l.source in
    AreNearest t (IsDonePart t l.targets l.k l.begin l.walk_index) (map final_walk_in l.entries.items)
