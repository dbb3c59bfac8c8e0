use Rattle.std.proofs.Common.{◌≡◌, ◌++◌, string_bytes, take}
use Rattle.std.specs.List.{flat_map}
use Rattle.feed_stations.specs.Listing.{stop_text}
use Rattle.feed_stations.proofs.listing.append_stops.Given as goal

abbrev pub invariant-loop-stop : goal.invariant-loop-stop
invariant-loop-stop l = string_bytes l.lines ≡ string_bytes l.fn.lines
    ++ flat_map (stop_text l.stop_table.rows.items l.stop_table.labels.items) (take l.stop-index l.stops)
