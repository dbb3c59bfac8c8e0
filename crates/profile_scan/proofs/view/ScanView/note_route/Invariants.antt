use Rattle.std.proofs.Common.{◌≡◌, ◌-◌, List, length, Some}
use Rattle.timetable.specs.declared.network.Footpath.{Footpath}
use Rattle.scan_state.specs.Continuations.{Aboard}
use Rattle.scan_state.specs.ScanRecords.{label_spells}
use Rattle.profile_scan.specs.Views.{scan_records_seen}
use Rattle.profile_scan.specs.JourneyNodes.{IsRoute, IsLabelSpelled}
use Rattle.profile_scan.proofs.view.ScanView.note_route.Given as goal

abbrev pub invariant-loop-i : goal.invariant-loop-i
invariant-loop-i g l =
    let s = scan_records_seen g.K.Keeping.value l.self in
    record {
      route : IsRoute s l.first l.route.items l.label;
      long : length l.route.items ≡ l._i;
      tells : (walks : List Footpath) → IsLabelSpelled walks s l.first
          → (x : Aboard) × (label_spells walks s (length s.exits - l._i) l.label
          ≡ Some x);
    }
