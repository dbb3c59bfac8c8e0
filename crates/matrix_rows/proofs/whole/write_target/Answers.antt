use Rattle.std.proofs.Common.{ℕ, List, IfSome, inr, subst}
use Rattle.std.specs.Borrow.{Bor}
use Rattle.matrix_rows.specs.Tables.{AreRowsBy}
use Rattle.matrix_rows.proofs.Answering.{on_done}
use Rattle.matrix_rows.proofs.Joins.{on_failed}
use Rattle.matrix_rows.proofs.whole.write_target.Goals as goal

pub returns-in-Some-clause-written : goal.returns-in-Some-clause-written
returns-in-Some-clause-written g c =
    let table = c.args.table.now.plain in
    let rows = subst (λ o. IfSome o (λ (rows : Bor (List ℕ)). AreRowsBy table.criterion table c.args.targets.now rows.now)) c.in-Some.is c.requires.rows in
    on_done c.write_all.result (λ added. (c.in-Some.rows.now, rows, added)) c.write_all.ensures.written

pub returns-in-Some-clause-begun : goal.returns-in-Some-clause-begun
returns-in-Some-clause-begun g c =
    let table = c.args.table.now.plain in
    let rows = subst (λ o. IfSome o (λ (rows : Bor (List ℕ)). AreRowsBy table.criterion table c.args.targets.now rows.now)) c.in-Some.is c.requires.rows in
    on_failed c.write_all.result (λ begun. inr (c.in-Some.rows.now, rows, begun)) c.write_all.ensures.begun
