use Rattle.std.proofs.Common.{true, take}
use Rattle.profile_scan.specs.Everywhere.{asked_to_any}
use Rattle.travel_times.specs.Rows.{AreWhole, text_of}
use Rattle.image_files.specs.Naming.{printed}
use Rattle.matrix_rows.specs.Tables.{AreRowsTo}
use Rattle.matrix_rows.proofs.target.point_rows_of.Given as goal

abbrev pub invariant-loop-list_index : goal.invariant-loop-list_index
invariant-loop-list_index g l = record {
  whole : AreWhole l.rows;
  rows : AreRowsTo g.C.ShowsFigures.figures (g.C.Criterion.rules l.criterion) true
      (printed l.table.plain.names l.table.plain.image.now) (asked_to_any l.profiles)
      (take l.list_index l.table.plain.sources.now) (text_of l.rows);
}
