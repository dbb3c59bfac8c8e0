use Rattle.shelf_steps.specs.Plays.{TableSeatValue, MayOpenOn, OpensOn}
use Rattle.shelf_steps.proofs.Loads.{openings}
use Rattle.shelf_steps.proofs.TableLemmas.{at_word, at_shelf}
use Rattle.shelf_steps.proofs.loader_steps.open.Goals as goal

pub fetch_add-requires : goal.fetch_add-requires
fetch_add-requires c = at_word _ _ _ _ c.args.shelf
    (λ (p : TableSeatValue). MayOpenOn c.args.shelf c.args.version p.me.0 p.me.1) _ c.loader.view_is c.requires.table
    c.shelves.view_is c.shelves.invariant.0 c.requires.numbers.0 c.requires.ready
    (openings _ c.loader.inside.seat.id c.args.shelf c.args.version c.loader.inside.seat.me c.shelves.invariant.1 c.requires.numbers.0)

pub returns-clause-open : goal.returns-clause-open
returns-clause-open c = at_shelf _ _ c.args.shelf (λ k m m'. OpensOn k m m') _ c.loader.view_is c.fetch_add.ensures.2
