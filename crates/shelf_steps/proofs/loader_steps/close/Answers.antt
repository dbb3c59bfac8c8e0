use Rattle.shelf_steps.specs.Plays.{TableSeatValue, MayCloseShelf, ClosesOn}
use Rattle.shelf_steps.proofs.Loads.{closings}
use Rattle.shelf_steps.proofs.TableLemmas.{at_word, at_shelf}
use Rattle.shelf_steps.proofs.loader_steps.close.Goals as goal

pub fetch_add-requires : goal.fetch_add-requires
fetch_add-requires c = at_word _ _ _ _ c.args.shelf (λ (p : TableSeatValue). MayCloseShelf c.args.shelf p.me.0) _
    c.loader.view_is c.requires.table c.shelves.view_is c.shelves.invariant.0 c.requires.numbers c.requires.ready
    (closings _ c.loader.inside.seat.id c.args.shelf c.loader.inside.seat.me c.requires.numbers)

pub returns-clause-close : goal.returns-clause-close
returns-clause-close c = at_shelf _ _ c.args.shelf (λ k m m'. ClosesOn k m m') _ c.loader.view_is c.fetch_add.ensures.2
