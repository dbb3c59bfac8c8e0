use Rattle.std.proofs.Common.{◌≡◌, min, take}
use Rattle.connections.specs.Runs.{count_hops}
use Rattle.connections.proofs.listing.count_connections.Given as goal

abbrev pub invariant-loop-run : goal.invariant-loop-run
invariant-loop-run l = l.count ≡ min (count_hops l.trips (take l.run-index l.runs)) 18446744073709551615
