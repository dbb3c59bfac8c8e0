use Rattle.std.proofs.Common.{◌≡◌, None}
use Rattle.gtfs_rows.specs.declared.fault.Table.TheVariants.{StopTimes}
use Rattle.gtfs_tables.specs.First.{first_below, row_fault}
use Rattle.gtfs_tables.specs.Rows.{is_flex_id, linked_fault}
use Rattle.gtfs_tables.proofs.links.judge_rows.Given as goal

abbrev pub invariant-loop-index : goal.invariant-loop-index
invariant-loop-index l = first_below (row_fault StopTimes (λ row. linked_fault l.trips l.stops (is_flex_id l.rows row.trip) row) l.rows) l.index ≡ None
