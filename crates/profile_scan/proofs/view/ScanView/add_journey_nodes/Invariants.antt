use Rattle.std.proofs.Common.{ℕ, length}
use Rattle.fronts.specs.Front.{Extends}
use Rattle.profile_scan.specs.Views.{scan_records_seen}
use Rattle.profile_scan.specs.JourneyNodes.{IsRoute, SaysLabel}
use Rattle.profile_scan.proofs.view.ScanView.add_journey_nodes.Given as goal

abbrev pub invariant-loop-label : goal.invariant-loop-label
invariant-loop-label g l =
    let walks = (g.S.ConnSource.timetable l.source).footpaths in
    let s = scan_records_seen g.K.Keeping.value l.self in
    record {
      nodes : Extends l.fn.nodes.items l.nodes.items;
      says : (last : ℕ) × IsRoute s l.set_out.label l.route.items last × SaysLabel walks s last l.nodes.items l.next;
    }

abbrev pub decreases-loop-label : goal.decreases-loop-label
decreases-loop-label g l = length l.route.items
