use Rattle.std.proofs.Common.{◌≡◌, ◌++◌, drop, slice_index}
use Rattle.lanes.specs.Lanes.{labels_from, lane_labels}
use Rattle.lanes.proofs.trip_lanes.TripLanes.read.Given as goal

abbrev pub invariant-loop-k : goal.invariant-loop-k
invariant-loop-k l =
    l.labels.items ++ labels_from (slice_index l.lanes.tags) l.k l.before (drop l.k l.lanes.times) ≡ lane_labels (slice_index l.lanes.tags) l.lanes.times
