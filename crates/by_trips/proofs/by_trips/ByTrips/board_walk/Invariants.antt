use Rattle.by_trips.proofs.ByTripsBoarded.{BoardsSome}
use Rattle.by_trips.proofs.by_trips.ByTrips.board_walk.Given as goal

abbrev pub invariant-loop-k : goal.invariant-loop-k
invariant-loop-k l = BoardsSome l.hop l.walk l.boarding l.fn.self l.k l.self
