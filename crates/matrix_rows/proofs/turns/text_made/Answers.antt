use Rattle.matrix_rows.proofs.Runs.{found_in}
use Rattle.matrix_rows.proofs.turns.text_made.Goals as goal

pub returns-in-Some : goal.returns-in-Some
returns-in-Some c =
    found_in c.args.made.now c.loop-part.part-index c.part-item.result c.deref.result.now c.args.index c.text_in.result c.in-Some.text
    c.loop-part-test.true c.part-item.is c.deref.ensures.value c.text_in.ensures c.in-Some.is
