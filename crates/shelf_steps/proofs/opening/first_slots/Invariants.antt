use Rattle.std.specs.Arc.{arc_value}
use Rattle.shelf_steps.specs.Rule.{FirstSlots}
use Rattle.shelf_steps.proofs.opening.first_slots.Given as goal

abbrev pub invariant-loop-index : goal.invariant-loop-index
invariant-loop-index l = FirstSlots (arc_value l.fn.first) l.index l.slots.items
