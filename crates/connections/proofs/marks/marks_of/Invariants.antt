use Rattle.std.proofs.Common.{◌≡◌, ℕ, true, length, take}
use Rattle.connections.specs.Marks.{AreMarks}
use Rattle.connections.specs.Repeats.{is_start, leaves_at}
use Rattle.connections.proofs.marks.marks_of.Given as goal

abbrev pub invariant-loop-row : goal.invariant-loop-row
invariant-loop-row l = record {
  len : length l.marks.items ≡ l.end;
  marks : AreMarks (is_start (take l.row-index l.rows)) l.marks.items;
  covered : (s : ℕ) → leaves_at s l.last ≡ true → is_start (take l.row-index l.rows) s ≡ true;
}
