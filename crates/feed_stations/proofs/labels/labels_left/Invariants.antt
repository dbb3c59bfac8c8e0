use Rattle.std.proofs.Common.{◌≡◌, drop, take}
use Rattle.std.specs.List.{AllZip}
use Rattle.gtfs_rows.specs.Source.{IsReading, left_of}
use Rattle.feed_stations.specs.Labels.{IsStopLabel}
use Rattle.feed_stations.proofs.labels.labels_left.Given as goal

abbrev pub invariant-loop-taken : goal.invariant-loop-taken
invariant-loop-taken l = record {
  reading : IsReading l.records;
  left : drop l.taken (left_of l.initial.records) ≡ left_of l.records;
  labels : AllZip (IsStopLabel l.columns.name l.columns.platform) (take l.taken (left_of l.initial.records)) l.labels.items;
}
