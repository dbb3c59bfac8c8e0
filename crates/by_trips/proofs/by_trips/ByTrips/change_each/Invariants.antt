use Rattle.std.proofs.Common.{◌<◌, ◌≤◌, length}
use Rattle.lanes.specs.Lanes.{trip_rules}
use Rattle.scan_state.specs.Bound.{Excludes}
use Rattle.scan_state.specs.Adding.{StandsBefore, each_of, one_way, only_if}
use Rattle.scan_state.specs.ScanRecords.{IsExit}
use Rattle.scan_state.specs.KeptParts.{LabelsTake}
use Rattle.by_trips.specs.ByTrips.{RelabelsByTrips, points_beyond}
use Rattle.scan_state.specs.declared.scan_records.Exit.TheVariants.{Changes}
use Rattle.by_trips.proofs.by_trips.ByTrips.change_each.Given as goal

abbrev pub invariant-loop-k : goal.invariant-loop-k
invariant-loop-k l = record {
  takes : RelabelsByTrips l.hop.bound.now (LabelsTake trip_rules l.hop.connection.trip (λ way. Excludes trip_rules l.hop.bound.now way.0.value)
      (λ tags. each_of (StandsBefore (points_beyond l.fn.self.beyond.points.items l.hop.connection.to) l.k)
      (λ p. only_if (l.hop.connection.arr ≤ p.departure) (one_way 0 p.value (IsExit tags (Changes l.hop.place p.tag)))))) l.fn.self l.self;
  there : l.hop.connection.to < length l.self.beyond.points.items;
}
