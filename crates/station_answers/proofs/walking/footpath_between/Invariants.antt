use Rattle.std.proofs.Common.{◌≡◌, ℕ, ◌<◌, ◌≤◌}
use Rattle.timetable.specs.Legal.{At}
use Rattle.timetable.specs.declared.network.Footpath.{Footpath}
use Rattle.station_answers.proofs.walking.footpath_between.Given as goal

abbrev pub invariant-loop-index : goal.invariant-loop-index
invariant-loop-index g l =
    (k : ℕ) (f : Footpath) → At (g.S.ConnSource.timetable l.source).footpaths k f → l.start ≤ k → k < l.index → f.from ≡ l.from → ⊥
