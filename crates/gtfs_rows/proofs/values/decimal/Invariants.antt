use Rattle.std.proofs.Common.{◌≡◌, ◌<◌, ◌^◌, take}
use Rattle.gtfs_rows.specs.Values.{decimal_of}
use Rattle.gtfs_rows.proofs.values.decimal.Given as goal

abbrev pub invariant-loop-byte : goal.invariant-loop-byte
invariant-loop-byte l = record {
  value : l.number ≡ decimal_of (take l.byte-index l.digits);
  small : l.number < 10 ^ l.byte-index;
}
