use Rattle.std.proofs.Common.{rules, ◌≡◌, []}
use Rattle.shelf_steps.specs.Plays.{OfLoader}
use Rattle.shelves.specs.ShelfLoads.{Rests}
use Rattle.shelves.proofs.Resting.{busy_known, remembers_freed}
use Rattle.shelves.proofs.shelf_loader.ShelfLoader.try_at.Goals as goal

pub invariant_of-self : goal.invariant_of-self
invariant_of-self c =
    let inside = c.self.inside in let after = c.try_shelf.new.loader.me in
    let rests : OfLoader after.0 (λ l. Rests inside.current inside.current_shelf inside.shelves l) × (after.1 ≡ []) = search rules in
    (rests.0, rests.1, busy_known c.args.shelf c.in-Some.count inside.table_seat.me.0 after.0 c.self.invariant.2 c.in-Some.ensures.busy)

pub invariant_of-self-in-None : goal.invariant_of-self-in-None
invariant_of-self-in-None c =
    let inside = c.self.inside in
    let known = remembers_freed inside.current inside.current_shelf inside.shelves c.args.shelf c.in-Closing.version inside.table_seat.me.0
    c.try_shelf.new.loader.me.0 (c.self.invariant.0, c.self.invariant.2) c.in-Closing.is c.in-None.ensures.freed in
    (known.0, c.try_shelf.ensures.empty, known.1)
