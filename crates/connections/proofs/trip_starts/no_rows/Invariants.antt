use Rattle.std.proofs.Common.{[]}
use Rattle.connections.specs.Grouping.{AreGrouped}
use Rattle.connections.proofs.trip_starts.no_rows.Given as goal

abbrev pub invariant-loop : goal.invariant-loop
invariant-loop l = AreGrouped [] l.counter l.groups.items
