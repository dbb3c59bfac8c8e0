use Rattle.scan_state.specs.KeptParts.{boards_after_each}
use Rattle.scan_state.specs.InLists.{BoardsRidden}
use Rattle.scan_state.proofs.stops.Stops.board_walks.Given as goal

abbrev pub invariant-loop-walk_index : goal.invariant-loop-walk_index
invariant-loop-walk_index g l =
    BoardsRidden g.C.Criterion.rules l.asked.criterion (boards_after_each (g.C.Criterion.rules l.asked.criterion) (g.S.ConnSource.timetable l.source)
    l.fn.walks.start l.walk_index l.hop) l.fn.self l.self
