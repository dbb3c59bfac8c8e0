use Rattle.std.proofs.Common.{◌-◌}
use Rattle.connections.proofs.DaySteps.{IsStartedTo}
use Rattle.connections.proofs.days.service_days.Given as goal

abbrev pub invariant-loop-done : goal.invariant-loop-done
invariant-loop-done l = IsStartedTo l.zone l.fn.first l.days l.service_days.items l.day (l.days - l.done)
