use Rattle.std.proofs.Common.{◌≡◌, ℕ, List, ◌++◌}
use Rattle.std.specs.Global.{Vec}
use Rattle.std.specs.Io.KnownBytes.{Appends}
use Rattle.std.specs.Slice.Iter.{chunks_rest}
use Rattle.csv.specs.Writing.{default_writer, row_text}
use Rattle.matrix_rows.specs.Runs.{AreMade}
use Rattle.matrix_rows.specs.Tables.{AreRowsOf, names_of}
use Rattle.matrix_rows.proofs.whole.write_named.Given as goal

-- the rows of the targets before the run are written, and those of the run are made
abbrev pub invariant-loop-next : goal.invariant-loop-next
invariant-loop-next g l =
    (goal.iterator-loop-next g).can_next l.next-iterator
    × (goal.iterator-loop-next g).is_finite l.next-iterator
    × AreMade l.table.plain l.run l.made.items
    × ((done : List (Vec ℕ)) × (rows : List ℕ) × AreRowsOf l.table.plain done rows
    × Appends (g.W.Write.contents l.fn.out) (g.W.Write.contents l.out) (row_text default_writer (names_of l.table.plain.each) ++ rows)
    × (done ++ (l.run ++ chunks_rest l.next-iterator) ≡ l.table.plain.targets.now))
