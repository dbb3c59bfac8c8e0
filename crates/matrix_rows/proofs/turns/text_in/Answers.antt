use Rattle.matrix_rows.proofs.Runs.{text_at}
use Rattle.matrix_rows.proofs.turns.text_in.Goals as goal

pub returns-then-rows-index : goal.returns-then-rows-index
returns-then-rows-index c =
    text_at c.args.part.now c.loop-rows.rows-index c.rows-item.result c.args.index c.deref.result.now c.loop-rows-test.true c.rows-item.is
    c.if-rows-index.true c.deref.ensures.value
