use Rattle.std.proofs.Common.{◌≡◌, arith, ◌∙◌, length-set}
use Rattle.shelves.proofs.Resting.{each_closing, one_more_try}
use Rattle.shelves.proofs.shelf_loader.ShelfLoader.try_all.Goals as goal

pub loop-shelf-preserved : goal.loop-shelf-preserved
loop-shelf-preserved c =
    let i = c.loop-shelf.invariant in let k = c.loop-shelf-test.true in let e = i.eight in let new = c.try_at-freed.ensures.table in
    record {
      table = new.0 ∙ i.table;
      current = new.1 ∙ i.current;
      answers = new.2 ∙ i.answers;
      eight = (
        length-set c.loop-shelf.found.freed c.loop-shelf.shelf c.try_at-freed.result.0 ∙ e.0,
        length-set c.loop-shelf.found.busy c.loop-shelf.shelf c.try_at-freed.result.1 ∙ e.1,
      );
      tried = one_more_try c.loop-shelf.shelf c.args.self.now.view c.loop-shelf.self.view c.try_at-freed.new.self.view
          c.loop-shelf.found.freed c.loop-shelf.found.busy c.try_at-freed.result.0 c.try_at-freed.result.1
          (let a = e.0 in omega arith) (let a = e.1 in omega arith) i.tried c.try_at-freed.ensures.tried;
    }

-- all eight were tried, so each that was closing
pub returns-clause-steps : goal.returns-clause-steps
returns-clause-steps c =
    let inside = c.self.inside in let found = c.loop-shelf.found in
    let eight : c.loop-shelf.shelf ≡ 8 = omega (arith, c.loop-shelf-test.false, c.loop-shelf.auto.shelf-end) in
    let tried = rw (← c.self.view_is) at (rw eight at c.loop-shelf.invariant.tried) in
    rw (← c.self.view_is) (
      tried,
      each_closing inside.current inside.current_shelf inside.shelves inside.table_seat.me.0 c.loop-shelf.self.view found
          (c.self.invariant.0, c.self.invariant.2) tried,
    )
