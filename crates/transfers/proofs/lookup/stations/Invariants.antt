use Rattle.std.proofs.Common.{◌≡◌, map, take}
use Rattle.transfers.proofs.lookup.stations.Given as goal

abbrev pub invariant-loop-stop : goal.invariant-loop-stop
invariant-loop-stop l = l.stations.items ≡ map (λ stop. stop.station) (take l.stop-index l.stops)
