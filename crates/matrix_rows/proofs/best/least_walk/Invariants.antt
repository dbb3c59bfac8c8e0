use Rattle.std.proofs.Common.{take}
use Rattle.profile_scan.specs.Everywhere.{asked_to_any}
use Rattle.matrix_rows.specs.Tables.{IsLeastWalk, from_stops}
use Rattle.matrix_rows.proofs.best.least_walk.Given as goal

abbrev pub invariant-loop-stop : goal.invariant-loop-stop
invariant-loop-stop g l = IsLeastWalk l.image.timetable (from_stops (asked_to_any l.profiles) (take l.stop-index l.stops)) l.least
