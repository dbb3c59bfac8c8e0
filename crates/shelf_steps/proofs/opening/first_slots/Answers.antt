use Rattle.std.proofs.Common.{List, ◌+◌, Option, subst, sym}
use Rattle.std.specs.Arc.{arc_value}
use Rattle.shelf_steps.specs.Rule.{FirstSlots}
use Rattle.shelf_steps.specs.declared.edition.Edition.{Edition}
use Rattle.shelf_steps.proofs.Opens.{first_slots_grow}
use Rattle.shelf_steps.proofs.opening.first_slots.Goals as goal

pub loop-index-preserved : goal.loop-index-preserved
loop-index-preserved c =
    subst (λ (l : List (Option Edition)). FirstSlots (arc_value c.args.first.now) (c.loop-index.index + 1) l) (sym c.in_ok-push.ensures.items)
    (first_slots_grow (arc_value c.args.first.now) c.loop-index.index c.loop-index.slots.items
    c.in_ok-first_slot.field-0 c.loop-index.invariant c.in_ok-first_slot.ensures)
