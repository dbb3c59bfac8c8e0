use Rattle.std.proofs.Common.{◌≡◌, ◌-◌, ◌≤◌, ◌++◌, ℕ}
use Rattle.scan_state.specs.SetQuery.{asked_from, question}
use Rattle.scan_state.specs.Matching.{MatchesFrom}
use Rattle.scan_state.specs.ScanRecords.{spelling_of}
use Rattle.profile_scan.specs.Scans.{IsScan}
use Rattle.profile_scan.specs.Scans.{scan_value_of, scan_records_of}
use Rattle.profile_scan.specs.Window.{falling}
use Rattle.profile_scan.proofs.scan.scan_window.Given as goal

abbrev pub invariant-loop-place : goal.invariant-loop-place
invariant-loop-place g l =
    let t = g.S.ConnSource.timetable l.fn.source in
    record {
      low : l.fn.window.start ≤ l.place;
      high : l.place ≤ l.fn.window.end;
      timetable : g.S.ConnSource.timetable l.source ≡ g.S.ConnSource.timetable l.fn.source;
      log : g.S.ConnSource.log l.source ≡ g.S.ConnSource.log l.fn.source ++ falling l.place (l.fn.window.end - l.place);
      scan : IsScan g.C.Criterion.rules g.K.Keeping.IsUnder g.O.AtSource.IsUnder g.O.AtSource.kept l.asked.criterion t l.place l.scan;
      matched : (index : ℕ) → MatchesFrom (g.C.Criterion.rules l.asked.criterion) t
          (asked_from g.O.AtSource.sources (question l.asked.query) index)
          (spelling_of t.footpaths (scan_records_of g.K.Keeping.value g.O.AtSource.kept l.scan.state index)) l.place
          (scan_value_of g.K.Keeping.value g.O.AtSource.kept l.scan.state index);
    }

abbrev pub decreases-loop-place : goal.decreases-loop-place
decreases-loop-place g l = l.place - l.fn.window.start
