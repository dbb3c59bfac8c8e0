use Rattle.std.proofs.Common.{ℕ, List, take}
use Rattle.std.specs.Io.KnownBytes.{Appends}
use Rattle.matrix_rows.specs.Tables.{AreRowsOf}
use Rattle.matrix_rows.proofs.whole.write_run.Given as goal

-- the rows of the targets so far are written
abbrev pub invariant-loop-index : goal.invariant-loop-index
invariant-loop-index g l =
    (rows : List ℕ) × AreRowsOf l.table.plain (take l.index l.run) rows × Appends (g.W.Write.contents l.fn.out) (g.W.Write.contents l.out) rows
