use Rattle.std.proofs.Common.{◌≡◌, length}
use Rattle.shelves.specs.ShelfLoads.{TriesBelow}
use Rattle.shelves.proofs.shelf_loader.ShelfLoader.try_all.Given as goal

abbrev pub invariant-loop-shelf : goal.invariant-loop-shelf
invariant-loop-shelf l = record {
  table : l.self.table ≡ l.fn.self.table;
  current : l.self.current ≡ l.fn.self.current;
  answers : l.self.answers ≡ l.fn.self.answers;
  eight : (length l.found.freed ≡ 8) × (length l.found.busy ≡ 8);
  tried : TriesBelow l.shelf l.fn.self.view l.found.freed l.found.busy l.self.view;
}
