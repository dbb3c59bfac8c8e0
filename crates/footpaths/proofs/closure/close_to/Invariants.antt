use Rattle.std.proofs.Common.{◌≡◌, ◌≤◌, ℕ, [], None, length}
use Rattle.std.specs.BinaryHeap.{heap_items}
use Rattle.footpaths.specs.Search.{time_at}
use Rattle.footpaths.specs.Collected.{IsClosedInto}
use Rattle.footpaths.proofs.closure.close_to.Given as goal

abbrev pub invariant-loop-target : goal.invariant-loop-target
invariant-loop-target l = record {
  count : length l.search.times.items ≡ l.stops;
  empty : (stop : ℕ) → time_at l.search.times.items stop ≡ None;
  nothing : l.search.reached.items ≡ [];
  idle : heap_items l.search.pending ≡ [];
  closed : IsClosedInto l.listed l.cap l.target l.closed.items;
  few : length l.closed.items ≤ l.most;
}
