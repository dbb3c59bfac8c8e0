use Rattle.std.proofs.Common.{take}
use Rattle.std.specs.List.{AllZip}
use Rattle.profile_scan.specs.Everywhere.{asked_to_any}
use Rattle.image_files.specs.Naming.{printed}
use Rattle.matrix_rows.specs.Tables.{IsMeanFrom}
use Rattle.matrix_rows.proofs.target.means_of.Given as goal

abbrev pub invariant-loop-sources : goal.invariant-loop-sources
invariant-loop-sources g l =
    AllZip (IsMeanFrom g.C.ShowsFigures.figures (g.C.Criterion.rules l.criterion)
    (printed l.table.names l.table.image.now) (asked_to_any l.profiles) l.table.after l.table.until)
    (take l.sources-index l.table.sources.now) l.means.items
