use Rattle.std.proofs.Common.{◌∙◌, List, Option, ℕ, IfOk, false, subst, sym}
use Rattle.std.specs.List.{AllZip}
use Rattle.scan_state.specs.SetQuery.{SetQueryValue, IsAskableBetween}
use Rattle.profile_scan.specs.Everywhere.{asked_to_any}
use Rattle.image_files.specs.Naming.{printed}
use Rattle.matrix_rows.specs.Tables.{AreRowsTo, IsMeanFrom, waiting}
use Rattle.matrix_rows.proofs.Answering.{means_asked}
use Rattle.matrix_rows.proofs.target.pair_rows_of_one_scan.Goals as goal

pub pair_rows_of-requires-clause-asked : goal.pair_rows_of-requires-clause-asked
pair_rows_of-requires-clause-asked g c =
    subst (IsAskableBetween c.args.table.now.plain.image.now.timetable.stops) (sym (c.in_ok-profiles.ensures.keeps.1 ∙ c.in_ok-destinations.ensures))
    c.requires.can.asked

pub means_of-requires-clause-asked : goal.means_of-requires-clause-asked
means_of-requires-clause-asked g c =
    subst (IsAskableBetween c.args.table.now.plain.image.now.timetable.stops) (sym (c.in_ok-profiles.ensures.keeps.1 ∙ c.in_ok-destinations.ensures))
    c.requires.can.asked

pub pair_rows_of-requires-clause-means : goal.pair_rows_of-requires-clause-means
pair_rows_of-requires-clause-means g c =
    let table = c.args.table.now.plain in
    let found = asked_to_any c.in_ok-profiles.profiles in
    let figures = g.C.ShowsFigures.figures in
    let rules = g.C.Criterion.rules c.args.criterion.now in
    subst (λ (means : List (Option ℕ)). AllZip (IsMeanFrom figures rules
    (printed table.names table.image.now) (waiting found) found.from found.until) table.sources.now means)
    (sym c.deref.ensures.value)
    (means_asked figures rules (printed table.names table.image.now) table c.args.targets.now table.sources.now c.in_ok-means.means.items found
    (c.in_ok-profiles.ensures.keeps.1 ∙ c.in_ok-destinations.ensures) c.requires.same c.in_ok-means.ensures)

pub returns : goal.returns
returns g c =
    let table = c.args.table.now.plain in
    subst (λ (d : SetQueryValue). IfOk c.pair_rows_of.result (λ text. AreRowsTo g.C.ShowsFigures.figures (g.C.Criterion.rules c.args.criterion.now) false
    (printed table.names table.image.now) d table.sources.now text.items))
    (c.in_ok-profiles.ensures.keeps.1 ∙ c.in_ok-destinations.ensures) c.pair_rows_of.ensures
