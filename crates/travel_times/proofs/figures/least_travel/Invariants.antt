use Rattle.std.proofs.Common.{◌≡◌, ◌≤◌, drop, length, map}
use Rattle.travel_times.specs.Figures.{least_of, travel}
use Rattle.travel_times.proofs.figures.least_travel.Given as goal

abbrev pub invariant-loop-index : goal.invariant-loop-index
invariant-loop-index l = record {
  within : l.index ≤ length l.spans;
  least : l.least ≡ least_of (map travel (drop l.index l.spans));
}

abbrev pub decreases-loop-index : goal.decreases-loop-index
decreases-loop-index l = l.index
