use Rattle.std.proofs.Common.{◌∙◌, IfOk, true, subst, sym}
use Rattle.scan_state.specs.SetQuery.{SetQueryValue, IsAskableBetween}
use Rattle.image_files.specs.Naming.{printed}
use Rattle.matrix_rows.specs.Tables.{AreRowsTo}
use Rattle.matrix_rows.proofs.target.point_rows.Goals as goal

pub point_rows_of-requires-clause-asked : goal.point_rows_of-requires-clause-asked
point_rows_of-requires-clause-asked g c =
    subst (IsAskableBetween c.args.table.now.plain.image.now.timetable.stops) (sym (c.in_ok-profiles.ensures.keeps.1 ∙ c.in_ok-destinations.ensures))
    c.requires.asked

pub returns : goal.returns
returns g c =
    let table = c.args.table.now.plain in
    subst (λ (d : SetQueryValue). IfOk c.point_rows_of.result (λ text. AreRowsTo g.C.ShowsFigures.figures (g.C.Criterion.rules c.args.criterion.now) true
    (printed table.names table.image.now) d table.sources.now text.items))
    (c.in_ok-profiles.ensures.keeps.1 ∙ c.in_ok-destinations.ensures) c.point_rows_of.ensures
