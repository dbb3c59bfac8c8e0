use Rattle.std.proofs.Common.{◌≡◌, ℕ, length, slice_get, Some}
use Rattle.scan_state.specs.Starts.{IsStopAccessBy}
use Rattle.scan_state.specs.declared.starts.StopAccess.{StopAccess}
use Rattle.scan_state.proofs.starts.starts_from.Given as goal

abbrev pub invariant-loop-stop : goal.invariant-loop-stop
invariant-loop-stop g l = record {
  long : length l.leads.items ≡ l.stop;
  says : (k : ℕ) (lead : StopAccess) → slice_get l.leads.items k ≡ Some lead → IsStopAccessBy (g.S.ConnSource.timetable l.source) l.marked.items k lead;
}
