use Rattle.std.proofs.Common.{◌≡◌, length, take}
use Rattle.service_days.specs.Named.{names_of}
use Rattle.connections.specs.Active.{AreNamed, names_also}
use Rattle.connections.proofs.trip_services.service_indices.Given as goal

abbrev pub invariant-loop-trip : goal.invariant-loop-trip
invariant-loop-trip l = record {
  len : length l.indices.items ≡ l.trip-index;
  named : AreNamed (names_of l.named) (take l.trip-index l.trips) l.indices.items;
  names : names_of l.named ≡ names_also (names_of l.fn.named) (take l.trip-index l.trips);
}
