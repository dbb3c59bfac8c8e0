use Rattle.std.proofs.Common.{◌≡◌, map, take}
use Rattle.transfers.specs.Lookup.{end_station, end_stop}
use Rattle.transfers.proofs.lookup.ends_named.Given as goal

abbrev pub invariant-loop-row : goal.invariant-loop-row
invariant-loop-row l = record {
  stops : l.stops.items ≡ map (λ row. end_stop row.to) (take l.row-index l.transfers);
  stations : l.stations.items ≡ map (λ row. end_station row.to) (take l.row-index l.transfers);
}
