use Rattle.std.proofs.Common.{◌≡◌, ◌++◌, map, take, string_bytes}
use Rattle.text_pieces.specs.Json.{with_commas}
use Rattle.feed_stations.specs.Json.{stop_json}
use Rattle.feed_stations.proofs.json.append_each.Given as goal

abbrev pub invariant-loop-row_index : goal.invariant-loop-row_index
invariant-loop-row_index l = string_bytes l.out ≡ string_bytes l.fn.out
    ++ with_commas (map (stop_json l.stop_table.rows.items l.stop_table.labels.items) (take l.row_index l.stops))
