use Rattle.std.proofs.Common.{◌≡◌, ◌++◌, take}
use Rattle.bags.specs.Bag.{points_of}
use Rattle.by_trips.specs.TakenByTrips.{point_labels}
use Rattle.by_trips.proofs.by_trips_taking.add_points.Given as goal

abbrev pub invariant-loop-index : goal.invariant-loop-index
invariant-loop-index l = l.labels.items ≡ l.fn.labels.items ++ point_labels (take l.index (points_of l.bag))
