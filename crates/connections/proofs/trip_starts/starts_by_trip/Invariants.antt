use Rattle.std.proofs.Common.{take}
use Rattle.connections.specs.Grouping.{AreGrouped}
use Rattle.connections.proofs.trip_starts.starts_by_trip.Given as goal

abbrev pub invariant-loop-row : goal.invariant-loop-row
invariant-loop-row l = AreGrouped (take l.row-index l.rows) l.trips l.groups.items
