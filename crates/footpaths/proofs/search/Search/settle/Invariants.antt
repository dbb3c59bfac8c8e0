use Rattle.std.proofs.Common.{◌≡◌, ◌+◌, ◌*◌, ℕ, List, length}
use Rattle.std.specs.BinaryHeap.{heap_items, heap_len}
use Rattle.timetable.specs.declared.network.Footpath.{Footpath}
use Rattle.footpaths.specs.Index.{IsIndex}
use Rattle.footpaths.specs.Search.{IsWithin, AreWalked, AreReached, ArePendingInside, ArePendingOrFollowed, weight}
use Rattle.footpaths.proofs.search.Search.settle.Given as goal

abbrev pub invariant-loop-next : goal.invariant-loop-next
invariant-loop-next l = record {
  count : length l.self.times.items ≡ length l.initial.self.times.items;
  inside : ArePendingInside l.self.times.items (heap_items l.self.pending);
  lower : (stop secs : ℕ) → IsWithin l.initial.self.times.items stop secs → IsWithin l.self.times.items stop secs;
  followed : (listed : List Footpath) → IsIndex listed l.index.first.items l.index.paths.items
      → ArePendingOrFollowed listed l.initial.self.times.items (heap_items l.initial.self.pending)
      → ArePendingOrFollowed listed l.self.times.items (heap_items l.self.pending);
  walked : (listed : List Footpath) (target : ℕ) → IsIndex listed l.index.first.items l.index.paths.items
      → AreWalked listed l.cap target l.initial.self.times.items → AreWalked listed l.cap target l.self.times.items;
  reached : AreReached l.initial.self.times.items l.initial.self.reached.items → AreReached l.self.times.items l.self.reached.items;
}

abbrev pub decreases-loop-next : goal.decreases-loop-next
decreases-loop-next l = 2 * weight l.cap l.self.times.items + heap_len l.self.pending
