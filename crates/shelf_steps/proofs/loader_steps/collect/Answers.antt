use Rattle.std.proofs.Common.{◌≡◌, arith, subst}
use Rattle.shelf_steps.specs.Plays.{TableSeatValue, MayCollect, CollectsOn}
use Rattle.shelf_steps.proofs.Loads.{collectings}
use Rattle.shelf_steps.proofs.TableLemmas.{at_word}
use Rattle.shelf_steps.proofs.loader_steps.collect.Goals as goal

pub compare_exchange-requires : goal.compare_exchange-requires
compare_exchange-requires c = at_word _ _ _ _ c.args.shelf
    (λ (p : TableSeatValue). MayCollect c.args.shelf c.args.version p.me.0 p.me.1) _ c.loader.view_is c.requires.table
    c.shelves.view_is c.shelves.invariant.0 c.requires.numbers.0 c.requires.ready
    (collectings _ c.loader.inside.seat.id c.args.shelf c.args.version c.loader.inside.seat.me c.shelves.invariant.1 c.requires.numbers.0)

pub returns-clause-collect : goal.returns-clause-collect
returns-clause-collect c =
    let x = c.compare_exchange in let h = x.ensures.2 in let e = h.2 in let e' = h.3 in
    let same : h.0 ≡ c.args.shelf = omega arith in let same' : h.1 ≡ c.args.version = omega arith in
    subst (λ (p : TableSeatValue). CollectsOn c.args.shelf c.args.version x.result p.me x.new.seat.me) c.loader.view_is
    (subst (λ v. CollectsOn c.args.shelf v x.result c.loader.inside.seat.me x.new.seat.me) same'
    (subst (λ k. CollectsOn k h.1 x.result c.loader.inside.seat.me x.new.seat.me) same h.4))
