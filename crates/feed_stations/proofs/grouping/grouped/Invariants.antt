use Rattle.feed_stations.specs.Grouping.{AreGroupsBelow}
use Rattle.feed_stations.proofs.grouping.grouped.Given as goal

abbrev pub invariant-loop-row_index : goal.invariant-loop-row_index
invariant-loop-row_index l = AreGroupsBelow l.homes l.count l.row_index l.groups.items
