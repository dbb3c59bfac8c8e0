use Rattle.connections.specs.Times.{AreSpread}
use Rattle.connections.proofs.TimeSteps.{IsLiftedTo}
use Rattle.connections.proofs.times.trip_times.Given as goal

abbrev pub invariant-loop-index : goal.invariant-loop-index
invariant-loop-index l = record { lifted : IsLiftedTo l.rows l.times.items l.lifted l.left l.index; spread : AreSpread l.rows l.spread }
