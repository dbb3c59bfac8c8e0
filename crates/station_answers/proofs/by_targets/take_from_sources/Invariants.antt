use Rattle.std.proofs.Common.{◌≡◌, ℕ, ◌<◌, slice_get, Some}
use Rattle.profile_scan.specs.Destinations.{query_from}
use Rattle.profile_scan.specs.Everywhere.{criterion_of_profiles, destination_of}
use Rattle.scan_state.specs.SetQuery.{question}
use Rattle.station_answers.specs.Merging.{CoversQuery, IsMerged, KeepsCovered}
use Rattle.station_answers.proofs.by_targets.take_from_sources.Given as goal

abbrev pub invariant-loop-index : goal.invariant-loop-index
invariant-loop-index g l = record {
  merged : IsMerged g.C.Criterion.rules (criterion_of_profiles l.profiles) (g.S.ConnSource.timetable l.source) (question l.query) l.merged;
  kept : KeepsCovered (g.C.Criterion.rules (criterion_of_profiles l.profiles)) l.fn.merged l.merged;
  covers : (k stop : ℕ) → k < l.index → slice_get l.query.sources.items k ≡ Some stop
      → CoversQuery (g.C.Criterion.rules (criterion_of_profiles l.profiles)) (g.S.ConnSource.timetable l.source) l.merged
      (query_from (destination_of l.profiles) stop);
}
