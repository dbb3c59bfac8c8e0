use Rattle.std.proofs.Common.{◌≡◌, ◌-◌, ◌<◌, ℕ, Bool, true, length}
use Rattle.connections.specs.Marks.{AreMarks}
use Rattle.connections.specs.Repeats.{leaves_at}
use Rattle.connections.proofs.MarkSteps.{with_row}
use Rattle.connections.proofs.marks.mark_row.Given as goal

abbrev pub invariant-loop-next : goal.invariant-loop-next
invariant-loop-next l = record {
  len : length l.marks.items ≡ length l.fn.marks.items;
  start : l.next < l.row.end → leaves_at l.next l.row ≡ true;
  marks : (test : ℕ → Bool) → AreMarks test l.fn.marks.items → ((s : ℕ) → s < l.from → leaves_at s l.row ≡ true → test s ≡ true)
      → AreMarks (with_row test l.row l.next) l.marks.items;
}

abbrev pub decreases-loop-next : goal.decreases-loop-next
decreases-loop-next l = l.row.end - l.next
