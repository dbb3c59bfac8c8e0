use Rattle.std.proofs.Common.{◌≡◌}
use Rattle.feed_stations.specs.Choosing.{chosen_below}
use Rattle.feed_stations.proofs.texts.choose.Given as goal

abbrev pub invariant-loop-row_index : goal.invariant-loop-row_index
invariant-loop-row_index l = l.chosen.items ≡ chosen_below l.stop_table.rows.items l.groups.items l.found.items l.row_index
