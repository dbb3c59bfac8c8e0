use Rattle.std.proofs.Common.{◌≡◌, None, take}
use Rattle.std.specs.Prelude.{filter}
use Rattle.std.specs.List.{AllZip}
use Rattle.gtfs_rows.specs.declared.fault.Table.TheVariants.{Transfers}
use Rattle.gtfs_tables.specs.First.{first_below, row_fault}
use Rattle.gtfs_tables.specs.Names.{held_at}
use Rattle.gtfs_tables.specs.Rows.{IsTransferOf, is_kept, transfer_fault}
use Rattle.gtfs_tables.proofs.links.transfers.Given as goal

abbrev pub invariant-loop-index : goal.invariant-loop-index
invariant-loop-index l = record {
  fine : first_below (row_fault Transfers (transfer_fault (held_at l.names)) l.rows) l.index ≡ None;
  kept : AllZip (IsTransferOf (held_at l.names)) (filter is_kept (take l.index l.rows)) l.kept.items;
}
