use Rattle.matrix_rows.specs.Runs.{AreRowsIn}
use Rattle.matrix_rows.proofs.turns.rows_in_turns.Given as goal

-- the rows so far are those of their targets
abbrev pub invariant-loop : goal.invariant-loop
invariant-loop l = AreRowsIn l.table.plain l.run l.made.items
