use Rattle.std.proofs.Common.{◌≡◌, ◌+◌, ◌<◌, [], length, drop, get_or}
use Rattle.gtfs_rows.specs.Source.{IsReading, last_of, left_of, table_records}
use Rattle.gtfs_rows.proofs.records.find_record.Given as goal

abbrev pub invariant-loop-taken : goal.invariant-loop-taken
invariant-loop-taken l = record {
  reading : IsReading l.records;
  within : l.taken < length (table_records l.bytes);
  last : get_or (table_records l.bytes) l.taken [] ≡ last_of l.records;
  left : drop (l.taken + 1) (table_records l.bytes) ≡ left_of l.records;
  count : l.records.count ≡ l.taken + 1;
  lines : l.records.lines ≡ l.bytes;
}
