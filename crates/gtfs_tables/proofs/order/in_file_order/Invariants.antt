use Rattle.std.proofs.Common.{◌≡◌, take}
use Rattle.gtfs_tables.specs.Rows.{lack_stops}
use Rattle.gtfs_tables.proofs.SortKeyLemmas.{AreRising}
use Rattle.gtfs_tables.proofs.order.in_file_order.Given as goal

abbrev pub invariant-loop-at : goal.invariant-loop-at
invariant-loop-at l = record { rising : AreRising l.trips l.rows l.at l.last; stops : l.lack_stops ≡ lack_stops (take l.at l.rows) }
