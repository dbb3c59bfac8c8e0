use Rattle.std.proofs.Common.{◌≤◌, ◌^◌, length, take, All}
use Rattle.gtfs_tables.specs.declared.tables.Transfer.{Transfer}
use Rattle.transfers.specs.Listed.{NamesBelow}
use Rattle.transfers.proofs.lookup.end_of_stops.Given as goal

abbrev pub invariant-loop-row : goal.invariant-loop-row
invariant-loop-row l = record {
  stops : length l.feed.stops.items ≤ l.end;
  small : l.end ≤ 2 ^ 32;
  named : All (λ (row : Transfer). NamesBelow l.end row.from × NamesBelow l.end row.to) (take l.row-index l.feed.transfers.items);
}
