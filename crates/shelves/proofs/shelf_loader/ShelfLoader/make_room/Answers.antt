use Rattle.std.proofs.Common.{refl}
use Rattle.shelves.proofs.Resting.{Remembers, full_so, unspent}
use Rattle.shelves.proofs.shelf_loader.ShelfLoader.make_room.Goals as goal

pub returns-in-None-clause-full : goal.returns-in-None-clause-full
returns-in-None-clause-full c =
    let inside = c.self.inside in let view = inside.table_seat.me.0 in
    let known : Remembers inside.current inside.current_shelf inside.shelves view = (c.self.invariant.0, c.self.invariant.2) in
    let left = rw (← c.self.view_is) at c.requires.left in let none = rw (← c.self.view_is) at c.in_default.ensures in
    let tried = rw (← c.self.view_is) at c.try_all-found.ensures.steps in
    rw (← c.self.view_is) (
      unspent inside.current inside.current_shelf inside.shelves view known left,
      none,
      (c.try_all-found.result, tried, refl),
      c.in-None.ensures,
      full_so inside.current inside.current_shelf inside.shelves view c.try_all-found.new.self.view c.try_all-found.result known none tried.0 c.in-None.ensures,
    )
