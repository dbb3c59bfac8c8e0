use Rattle.std.proofs.Common.{◌≤◌, ℕ, List, length}
use Rattle.timetable.specs.declared.network.Footpath.{Footpath}
use Rattle.footpaths.specs.Search.{AreCappedLeast}
use Rattle.footpaths.specs.Collected.{IsClosedInto}
use Rattle.footpaths.proofs.ClosureLemmas.{AreTaken, IsClosing}
use Rattle.footpaths.proofs.closure.collect.Given as goal

abbrev pub invariant-loop-stop : goal.invariant-loop-stop
invariant-loop-stop l = record {
  taken : AreTaken l.initial.times l.reached l.stop-index l.times;
  closing : (listed : List Footpath) (cap : ℕ) → IsClosedInto listed cap l.target l.initial.closed.items → AreCappedLeast listed cap l.target l.initial.times
      → IsClosing listed cap l.target l.initial.times l.reached l.stop-index l.times l.closed.items;
  few : length l.initial.closed.items ≤ l.most → length l.closed.items ≤ l.most;
}
