use Rattle.std.proofs.Common.{◌≡◌, ◌+◌, ◌-◌, ◌*◌, ◌∷◌, length, arith, ap, sym, ◌∙◌}
use Rattle.atomic_table.specs.Table.{rest}
use Rattle.shelf_steps.specs.Slots.{nothings}
use Rattle.shelf_steps.specs.Blocks.{laid}
use Rattle.shelf_steps.proofs.Chains.{block_front, rotates, rotated}
use Rattle.shelf_steps.proofs.Editions.{laid_at, one_popped}
use Rattle.shelf_steps.proofs.blocks.fill_block.Goals as goal

pub swap_edition-empty-requires-clause-front : goal.swap_edition-empty-requires-clause-front
swap_edition-empty-requires-clause-front c =
    (block_front nothings (16 * c.args.shelf) c.loop-i.i c.loop-i.loader.me.1 _ (omega arith) c.loop-i.invariant.block)

pub loop-i-preserved : goal.loop-i-preserved
loop-i-preserved c =
    let e = c.swap_edition-empty.ensures in
    let t = c.turn.ensures in
    let gone = c.loop-i.invariant.gone in
    let left = c.loop-i.invariant.left in
    let less = c.in-Some.ensures.len in
    let short : length c.pop.new.self.items ≡ 15 - c.loop-i.i = omega arith in
    let all = one_popped c.args.editions.items c.loop-i.editions.items c.pop.new.self.items gone.0 c.in-Some.edition gone.1 c.in-Some.ensures.items in
    let here = laid_at c.args.editions.items c.pop.new.self.items gone.0 c.in-Some.edition (16 * c.args.shelf) (15 - c.loop-i.i) all short in
    record {
      table = t.table ∙ (e.table ∙ c.loop-i.invariant.table);
      view = ap (λ m. m.0) t.turned ∙ (ap (λ m. m.0) e.is ∙ c.loop-i.invariant.view);
      left = omega arith;
      gone = (c.in-Some.edition ∷ gone.0, all);
      block = ap (λ m. m.1) t.turned ∙ rotates nothings (laid c.args.editions.items (16 * c.args.shelf))
          (16 * c.args.shelf) c.loop-i.i c.loop-i.loader.me.1 _ (omega arith) c.loop-i.invariant.block
          (ap (λ m. m.1) e.is ∙ ap (λ x. (16 * c.args.shelf + (15 - c.loop-i.i), x) ∷ rest c.loop-i.loader.me.1) (sym here));
    }

pub returns-clause-block : goal.returns-clause-block
returns-clause-block c =
    let last = rotated nothings (laid c.args.editions.items (16 * c.args.shelf)) (16 * c.args.shelf) c.loop-i.i
    c.loop-i.loader.me.1 (omega arith) c.loop-i.invariant.block in
    λ i. (c.loop-i.invariant.view i, last i)
