use Rattle.std.proofs.Common.{arith, refl}
use Rattle.std.specs.Arc.{arc_value}
use Rattle.shelves.proofs.Publications.{loads_published}
use Rattle.shelves.proofs.Resting.{remembers_loaded}
use Rattle.shelves.proofs.shelf_loader.ShelfLoader.load_on.Goals as goal

pub invariant_of-self : goal.invariant_of-self
invariant_of-self c =
    let inside = c.self.inside in
    let left = rw (← c.self.view_is) at c.requires.left in let free = rw (← c.self.view_is) at c.requires.free in
    let known = remembers_loaded inside.current inside.current_shelf inside.shelves (arc_value c.args.image.now) c.args.shelf _
    inside.table_seat.me.0 c.load.new.loader.me.0 (c.self.invariant.0, c.self.invariant.2) free.1 refl (omega arith) c.in-Ok.ensures.load in
    (known.0, c.load.ensures.empty, known.1)

pub returns-in-Ok-clause-known : goal.returns-in-Ok-clause-known
returns-in-Ok-clause-known c =
    let inside = c.self.inside in
    loads_published inside.current inside.current_shelf inside.shelves (arc_value c.args.image.now) c.args.shelf _
    inside.table_seat.me.0 c.load.new.loader.me.0 c.self.invariant.0 refl c.in-Ok.ensures.load
