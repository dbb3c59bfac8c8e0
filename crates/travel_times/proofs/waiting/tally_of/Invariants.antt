use Rattle.std.proofs.Common.{◌<◌, drop, length}
use Rattle.travel_times.specs.Tally.{IsSmall, IsTally}
use Rattle.travel_times.proofs.waiting.tally_of.Given as goal

abbrev pub invariant-loop-index : goal.invariant-loop-index
invariant-loop-index l = record {
  within : l.index < length l.spans;
  small : IsSmall l.tally;
  known : IsTally l.after l.until (drop l.index l.spans) l.tally;
}

abbrev pub decreases-loop-index : goal.decreases-loop-index
decreases-loop-index l = l.index
