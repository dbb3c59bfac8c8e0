use Rattle.std.proofs.Common.{ℕ, ◌<◌}
use Rattle.shelves.specs.ShelfLoads.{IsFreeIn}
use Rattle.shelves.proofs.shelf_loader.ShelfLoader.free_shelf.Given as goal

abbrev pub invariant-loop-k : goal.invariant-loop-k
invariant-loop-k l = (j : ℕ) → j < l.k → ¬ (IsFreeIn l.self.view j)
