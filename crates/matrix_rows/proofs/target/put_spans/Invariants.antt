use Rattle.std.proofs.Common.{◌≡◌, take}
use Rattle.matrix_rows.specs.Tables.{spans_of}
use Rattle.matrix_rows.proofs.target.put_spans.Given as goal

abbrev pub invariant-loop-point : goal.invariant-loop-point
invariant-loop-point g l = l.spans.items ≡ spans_of g.C.ShowsFigures.figures (take l.point-index l.points)
