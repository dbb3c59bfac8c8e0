use Rattle.std.proofs.Common.{◌≡◌, ◌++◌, take}
use Rattle.std.specs.List.{flat_map}
use Rattle.travel_times.specs.Rows.{AreWhole, text_of}
use Rattle.matrix_rows.specs.Tables.{point_row}
use Rattle.matrix_rows.proofs.target.put_points.Given as goal

abbrev pub invariant-loop-point : goal.invariant-loop-point
invariant-loop-point g l = record {
  whole : AreWhole l.rows;
  text : text_of l.rows ≡ text_of l.fn.rows
      ++ flat_map (point_row g.C.ShowsFigures.figures l.from l.answered.to.now) (take l.point-index l.points);
}
