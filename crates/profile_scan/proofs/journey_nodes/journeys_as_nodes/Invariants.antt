use Rattle.std.proofs.Common.{◌≡◌, Contains, map, take}
use Rattle.scan_state.specs.Points.{untagged}
use Rattle.profile_scan.specs.Views.{scan_records_seen}
use Rattle.profile_scan.specs.JourneyNodes.{IsSpelledAgain}
use Rattle.profile_scan.proofs.journey_nodes.journeys_as_nodes.Given as goal

abbrev pub invariant-loop-i : goal.invariant-loop-i
invariant-loop-i g l =
    let walks = (g.S.ConnSource.timetable l.source).footpaths in
    record {
      same : map untagged l.spelled.items ≡ map untagged (take l.i l.points);
      says : (p : _) → Contains l.spelled.items p → IsSpelledAgain walks (scan_records_seen g.K.Keeping.value l.view) l.points l.nodes.items p;
    }
