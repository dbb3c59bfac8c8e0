use Rattle.std.proofs.Common.{length, ◌-◌, ◌≤◌}
use Rattle.image_layout.specs.Spelling.{footpath_count_below}
use Rattle.image_writer.proofs.network.first_into.Given as goal

abbrev pub invariant-loop-index : goal.invariant-loop-index
invariant-loop-index l = l.index ≤ footpath_count_below l.footpaths l.stop

abbrev pub decreases-loop-index : goal.decreases-loop-index
decreases-loop-index l = length l.footpaths - l.index
