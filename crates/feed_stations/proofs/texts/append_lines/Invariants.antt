use Rattle.std.proofs.Common.{◌≡◌, ◌++◌, string_bytes, take}
use Rattle.std.specs.List.{flat_map}
use Rattle.feed_stations.specs.Choosing.{line_at}
use Rattle.feed_stations.proofs.texts.append_lines.Given as goal

abbrev pub invariant-loop-row_index : goal.invariant-loop-row_index
invariant-loop-row_index l = string_bytes l.lines ≡ string_bytes l.fn.lines
    ++ flat_map (line_at l.stop_table l.choice.groups.items) (take l.row_index-index l.choice.chosen.items)
