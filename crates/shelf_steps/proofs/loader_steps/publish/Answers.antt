use Rattle.std.proofs.Common.{◌≡◌, arith, ap, sym, subst, ◌∙◌}
use Rattle.shelf_steps.specs.Plays.{TableSeatValue, MayPublish, PublishesOn}
use Rattle.shelf_steps.proofs.Loads.{publishings}
use Rattle.shelf_steps.proofs.loader_steps.publish.Goals as goal

pub store-requires : goal.store-requires
store-requires c = (
  ap (λ (p : TableSeatValue). p.table) c.loader.view_is ∙ (c.requires.table ∙ sym c.shelves.view_is),
  (let n = c.shelves.invariant.0 in let k = c.requires.numbers in omega arith),
  publishings _ c.loader.inside.seat.id c.args.shelf c.args.version c.loader.inside.seat.me c.requires.numbers.0
      (subst (λ (p : TableSeatValue). MayPublish c.args.version c.args.shelf p.me.0) (sym c.loader.view_is) c.requires.ready),
)

pub returns-clause-publish : goal.returns-clause-publish
returns-clause-publish c =
    let h = c.store.ensures.2 in let e = h.2 in let few = h.3 in let few' = c.requires.numbers.0 in
    let same : h.1 ≡ c.args.shelf = omega arith in let same' : h.0 ≡ c.args.version = omega arith in
    subst (λ (p : TableSeatValue). PublishesOn c.args.version c.args.shelf p.me c.store.new.seat.me) c.loader.view_is
    (subst (λ v. PublishesOn v c.args.shelf c.loader.inside.seat.me c.store.new.seat.me) same'
    (subst (λ k. PublishesOn h.0 k c.loader.inside.seat.me c.store.new.seat.me) same h.4))
