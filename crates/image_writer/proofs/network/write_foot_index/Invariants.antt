use Rattle.std.proofs.Common.{◌≡◌, ◌≤◌, ◌++◌, map}
use Rattle.std.specs.List.{range_with_len}
use Rattle.image_layout.specs.Spelling.{footpath_count_below}
use Rattle.image_writer.proofs.network.write_foot_index.Given as goal

abbrev pub invariant-loop-stop : goal.invariant-loop-stop
invariant-loop-stop l =
    (l.words.items ≡ l.initial.words.items ++ map (footpath_count_below l.footpaths) (range_with_len 0 l.stop))
    × (l.index ≤ footpath_count_below l.footpaths l.stop)
