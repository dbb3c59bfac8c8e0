use Rattle.shelf_steps.proofs.Opens.{opens_ruled}
use Rattle.std.specs.Arc.{arc_value}
use Rattle.shelf_steps.proofs.opening.new_shelves.Goals as goal

pub new-requires : goal.new-requires
new-requires c = opens_ruled (arc_value c.args.first.now) c.in_ok-slots.slots.items c.in_ok-slots.ensures
