use Rattle.scan_state.proofs.StartLemmas.{NoStart}
use Rattle.scan_state.proofs.starts.is_led.Given as goal

abbrev pub invariant-loop-walk_index : goal.invariant-loop-walk_index
invariant-loop-walk_index g l = NoStart (g.S.ConnSource.timetable l.source) l.marked l.begin l.walk_index
