use Rattle.std.proofs.Common.{IfOk, subst, sym}
use Rattle.std.specs.List.{AllZip}
use Rattle.scan_state.specs.SetQuery.{SetQueryValue, IsAskableBetween}
use Rattle.image_files.specs.Naming.{printed}
use Rattle.matrix_rows.specs.Tables.{IsMeanFrom}
use Rattle.matrix_rows.proofs.target.means_to.Goals as goal

pub means_of-requires-clause-asked : goal.means_of-requires-clause-asked
means_of-requires-clause-asked g c =
    subst (IsAskableBetween c.args.table.now.image.now.timetable.stops) (sym c.in_ok-profiles.ensures.keeps.1) c.requires.asked

pub returns : goal.returns
returns g c =
    let table = c.args.table.now in
    subst (λ (d : SetQueryValue). IfOk c.means_of.result (λ means. AllZip (IsMeanFrom g.C.ShowsFigures.figures (g.C.Criterion.rules c.args.criterion.now)
    (printed table.names table.image.now) d table.after table.until) table.sources.now means.items))
    c.in_ok-profiles.ensures.keeps.1 c.means_of.ensures
