use Rattle.std.proofs.Common.{◌≡◌, ◌++◌, map, take, string_bytes}
use Rattle.feed_stations.specs.Choosing.{json_at}
use Rattle.text_pieces.specs.Json.{with_commas}
use Rattle.feed_stations.proofs.texts.append_objects.Given as goal

abbrev pub invariant-loop-at : goal.invariant-loop-at
invariant-loop-at l = string_bytes l.out ≡ string_bytes l.fn.out ++ with_commas (map (json_at l.stop_table l.choice.groups.items)
    (take l.at l.choice.chosen.items))
