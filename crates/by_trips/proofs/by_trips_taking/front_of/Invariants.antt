use Rattle.by_trips.proofs.ByTripsTaken.{HasFirst}
use Rattle.by_trips.proofs.by_trips_taking.front_of.Given as goal

abbrev pub invariant-loop-k : goal.invariant-loop-k
invariant-loop-k l = HasFirst l.values l.k l.front
