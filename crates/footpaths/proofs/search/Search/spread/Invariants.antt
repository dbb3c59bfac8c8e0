use Rattle.std.proofs.Common.{◌+◌, ◌*◌, ◌<◌, ◌≤◌, ℕ, List, All, get_or}
use Rattle.std.specs.BinaryHeap.{heap_items, heap_len}
use Rattle.timetable.specs.declared.network.Footpath.{Footpath}
use Rattle.footpaths.specs.Search.{IsWithin, IsBackFrom, AreWalked, AreReached, Grows, weight}
use Rattle.footpaths.proofs.search.Search.spread.Given as goal

abbrev pub invariant-loop-path : goal.invariant-loop-path
invariant-loop-path l = record {
  grows : Grows l.initial.self.times.items (heap_items l.initial.self.pending) l.self.times.items (heap_items l.self.pending);
  within : (k : ℕ) (d : Footpath) → k < l.path-index → IsWithin l.self.times.items (get_or l.paths k d).from ((get_or l.paths k d).secs + l.secs);
  walked : (listed : List Footpath) (target : ℕ) → All (λ f. IsBackFrom listed l.cap target f l.secs) l.paths
      → AreWalked listed l.cap target l.initial.self.times.items → AreWalked listed l.cap target l.self.times.items;
  reached : AreReached l.initial.self.times.items l.initial.self.reached.items → AreReached l.self.times.items l.self.reached.items;
  falls : 2 * weight l.cap l.self.times.items + heap_len l.self.pending ≤ 2 * weight l.cap l.initial.self.times.items + heap_len l.initial.self.pending;
}
