use Rattle.by_trips.proofs.ByTripsBoarded.{BoardsTo}
use Rattle.by_trips.proofs.by_trips.ByTrips.board_walks.Given as goal

abbrev pub invariant-loop-walk_index : goal.invariant-loop-walk_index
invariant-loop-walk_index g l = BoardsTo (g.S.ConnSource.timetable l.source) l.hop l.fn.walks.start l.walk_index l.fn.self l.self
