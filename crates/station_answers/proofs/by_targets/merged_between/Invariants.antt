use Rattle.std.proofs.Common.{◌≡◌, ℕ, ◌<◌, ◌++◌, Contains, reverse, slice_get, Some}
use Rattle.scan_state.specs.SetQuery.{pair_of, question}
use Rattle.station_answers.specs.Merging.{CoversQuery, IsMerged}
use Rattle.station_answers.specs.Reading.{repeated, window_between}
use Rattle.station_answers.proofs.by_targets.merged_between.Given as goal

abbrev pub invariant-loop-index : goal.invariant-loop-index
invariant-loop-index g l = record {
  timetable : g.S.ConnSource.timetable l.source ≡ g.S.ConnSource.timetable l.fn.source;
  merged : IsMerged g.C.Criterion.rules l.criterion (g.S.ConnSource.timetable l.fn.source) (question l.query) l.merged;
  covers : (k target stop : ℕ) → k < l.index → slice_get l.query.targets.items k ≡ Some target → Contains l.query.sources.items stop
      → CoversQuery (g.C.Criterion.rules l.criterion) (g.S.ConnSource.timetable l.fn.source) l.merged (pair_of (question l.query) stop target);
  log : g.S.ConnSource.log l.source
      ≡ g.S.ConnSource.log l.fn.source ++ repeated l.index (reverse (window_between (g.S.ConnSource.timetable l.fn.source) (question l.query)));
}
