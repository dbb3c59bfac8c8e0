use Rattle.std.proofs.Common.{◌-◌, ◌<◌, ◌≤◌, ℕ}
use Rattle.timetable.specs.Legal.{At}
use Rattle.timetable.specs.declared.network.Footpath.{Footpath}
use Rattle.journeys.proofs.footpaths.first_leaving.Given as goal

abbrev pub invariant-halve : goal.invariant-halve
invariant-halve l = record {
  start : l.start ≤ l.low;
  order : l.low ≤ l.high;
  end : l.high ≤ l.end;
  before : (k : ℕ) (f : Footpath) → At l.image.timetable.footpaths k f → l.start ≤ k → k < l.low → f.from < l.from;
  here : (k : ℕ) (f : Footpath) → At l.image.timetable.footpaths k f → l.high ≤ k → k < l.end → l.from ≤ f.from;
}

abbrev pub decreases-halve : goal.decreases-halve
decreases-halve l = l.high - l.low
