use Rattle.shelf_steps.specs.Plays.{TableSeatValue, MayPutBack, PutsBackOn}
use Rattle.shelf_steps.proofs.Loads.{puttings}
use Rattle.shelf_steps.proofs.TableLemmas.{at_word, at_shelf}
use Rattle.shelf_steps.proofs.loader_steps.put_back.Goals as goal

pub compare_exchange-requires : goal.compare_exchange-requires
compare_exchange-requires c = at_word _ _ _ _ c.args.shelf (λ (p : TableSeatValue). MayPutBack c.args.shelf p.me.0 p.me.1) _
    c.loader.view_is c.requires.table c.shelves.view_is c.shelves.invariant.0 c.requires.numbers c.requires.ready
    (puttings _ c.loader.inside.seat.id c.args.shelf c.loader.inside.seat.me c.shelves.invariant.1 c.requires.numbers)

pub returns-clause-put_back : goal.returns-clause-put_back
returns-clause-put_back c = at_shelf _ _ c.args.shelf (λ k m m'. PutsBackOn k m m') _ c.loader.view_is c.compare_exchange.ensures.2
