use Rattle.std.proofs.Common.{Bool, IfOk, subst, sym}
use Rattle.image_files.specs.Naming.{printed}
use Rattle.matrix_rows.specs.Tables.{AreRowsTo, destination}
use Rattle.matrix_rows.proofs.target.rows_by.Goals as goal

pub returns : goal.returns
returns g c =
    let table = c.args.table.now.plain in
    subst (λ (each : Bool). IfOk c.pair_rows.result (λ text. AreRowsTo g.C.ShowsFigures.figures (g.C.Criterion.rules c.args.criterion.now) each
    (printed table.names table.image.now) (destination table c.args.targets.now) table.sources.now text.items))
    (sym c.if-table.false) c.pair_rows.ensures

pub returns-then-table : goal.returns-then-table
returns-then-table g c =
    let table = c.args.table.now.plain in
    subst (λ (each : Bool). IfOk c.point_rows.result (λ text. AreRowsTo g.C.ShowsFigures.figures (g.C.Criterion.rules c.args.criterion.now) each
    (printed table.names table.image.now) (destination table c.args.targets.now) table.sources.now text.items))
    (sym c.if-table.true) c.point_rows.ensures
