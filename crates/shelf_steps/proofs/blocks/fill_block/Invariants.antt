use Rattle.std.proofs.Common.{◌≡◌, ◌+◌, ◌-◌, ◌*◌, List, [], ◌++◌, length}
use Rattle.shelf_steps.specs.declared.edition.Edition.{Edition}
use Rattle.shelf_steps.specs.Slots.{down_from, nothings}
use Rattle.shelf_steps.specs.Blocks.{laid}
use Rattle.shelf_steps.proofs.blocks.fill_block.Given as goal

abbrev pub invariant-loop-i : goal.invariant-loop-i
invariant-loop-i l = record {
  table : l.loader.table ≡ l.fn.loader.table;
  view : l.loader.me.0 ≡ l.fn.loader.me.0;
  left : length l.editions.items ≡ 16 - l.i;
  gone : (rest : List Edition) × (l.editions.items ++ rest ≡ l.fn.editions.items);
  block : l.loader.me.1 ≡ down_from nothings (16 * l.shelf) (16 - l.i) []
      ++ down_from (laid l.fn.editions.items (16 * l.shelf)) (16 * l.shelf + (16 - l.i)) l.i [];
}
