use Rattle.std.proofs.Common.{ℕ, ◌<◌, ◌≤◌, ◌⊎◌, length}
use Rattle.fronts.specs.Front.{departure_of, points_from}
use Rattle.fronts.specs.Entries.{AreMore}
use Rattle.fronts.specs.Putting.{IsPath, DepartBefore, IsUnion}
use Rattle.fronts.proofs.insertion.join.Given as goal

abbrev pub invariant-loop-from : goal.invariant-loop-from
invariant-loop-from g l =
    let rules = g.C.Criterion.rules l.criterion in
    record {
      more : AreMore rules l.fn.entries.items l.fn.items.items l.entries.items l.items.items;
      within : l.new < length l.entries.items;
      early : DepartBefore l.fn.entries.items (departure_of l.fn.entries.items l.index) l.passed.items;
      joined : (was : ℕ)
          × IsPath l.fn.entries.items l.head l.passed.items was
          × (was < length l.fn.entries.items)
          × ((departure_of l.fn.entries.items l.index ≤ departure_of l.entries.items l.new)
          ⊎ ((0 < was) × (departure_of l.fn.entries.items was ≤ departure_of l.entries.items l.new)))
          × IsUnion rules (points_from l.fn.entries.items l.fn.items.items was)
          (points_from l.fn.entries.items l.fn.items.items l.index)
          (points_from l.entries.items l.items.items l.new);
    }

abbrev pub decreases-loop-from : goal.decreases-loop-from
decreases-loop-from g l = length l.passed.items
