use Rattle.std.proofs.Common.{◌≡◌, take}
use Rattle.gtfs_tables.specs.Order.{sort_keys_from}
use Rattle.gtfs_tables.proofs.order.sort_keys_of.Given as goal

abbrev pub invariant-loop-index : goal.invariant-loop-index
invariant-loop-index l = l.sort_keys.items ≡ sort_keys_from l.trips 1 (take l.index l.rows)
