use Rattle.std.proofs.Common.{◌*◌, arith, ap, ◌∙◌}
use Rattle.shelf_steps.specs.Slots.{nothings}
use Rattle.shelf_steps.proofs.Chains.{block_front, rotates, rotated}
use Rattle.shelf_steps.proofs.blocks.empty_block.Goals as goal

pub swap_edition-edition-requires-clause-front : goal.swap_edition-edition-requires-clause-front
swap_edition-edition-requires-clause-front c =
    let b = c.loop-i.invariant.block in
    (block_front b.0 (16 * c.args.shelf) c.loop-i.i c.loop-i.loader.me.1 _ (omega arith) b.1)

pub loop-i-preserved : goal.loop-i-preserved
loop-i-preserved c =
    let b = c.loop-i.invariant.block in
    let e = c.swap_edition-edition.ensures in
    let t = c.turn.ensures in
    record {
      table = t.table ∙ (e.table ∙ c.loop-i.invariant.table);
      view = ap (λ m. m.0) t.turned ∙ (ap (λ m. m.0) e.is ∙ c.loop-i.invariant.view);
      block = (b.0, ap (λ m. m.1) t.turned ∙ rotates b.0 nothings (16 * c.args.shelf) c.loop-i.i c.loop-i.loader.me.1 _ (omega arith) b.1 (ap (λ m. m.1) e.is));
    }

pub returns-clause-block : goal.returns-clause-block
returns-clause-block c =
    let b = c.loop-i.invariant.block in
    let last = rotated b.0 nothings (16 * c.args.shelf) c.loop-i.i c.loop-i.loader.me.1 (omega arith) b.1 in
    λ i. (c.loop-i.invariant.view i, last i)
