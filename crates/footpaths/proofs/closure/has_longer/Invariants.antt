use Rattle.std.proofs.Common.{◌≤◌, ◌<◌, ℕ, get_or}
use Rattle.timetable.specs.declared.network.Footpath.{Footpath}
use Rattle.footpaths.proofs.closure.has_longer.Given as goal

abbrev pub invariant-loop-path : goal.invariant-loop-path
invariant-loop-path l = (k : ℕ) (d : Footpath) → k < l.path-index → (get_or l.closed k d).secs ≤ l.longest
