use Rattle.std.specs.Arc.{arc_value}
use Rattle.shelf_steps.specs.Blocks.{EachHas}
use Rattle.shelf_steps.proofs.blocks.editions_of.Given as goal

abbrev pub invariant-loop-i : goal.invariant-loop-i
invariant-loop-i l = EachHas l.version (arc_value l.fn.image) l._i l.editions.items
