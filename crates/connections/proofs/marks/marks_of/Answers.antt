use Rattle.std.proofs.Common.{◌∙◌, sym, ap, inl, inr, take, arith}
use Rattle.gtfs_tables.specs.declared.tables.Frequency.{Frequency}
use Rattle.connections.specs.Repeats.{is_start, leaves_at}
use Rattle.connections.proofs.MarkSteps.{covers_before, covers_here, marks_row}
use Rattle.connections.proofs.marks.marks_of.Goals as goal
use Rattle.connections.proofs.marks.marks_of.Goals.{then-covers, else-covers}

pub loop-row-preserved : goal.loop-row-preserved
loop-row-preserved c =
    let none : Frequency = record { trip = 0; start = 0; end = 0; headway = 0 } in
    let rows = c.args.rows.now in
    let i = c.loop-row.row-index in
    let lt = c.loop-row-test.true in
    let was = c.loop-row.invariant in
    elim c.if-covers.branch [
      | then-covers w ↦
          let covered = c.covers.ensures w.if-covers.true in
          rw (w.marks-is, w.last-is) (record {
            len = w.mark_row.ensures.len ∙ was.len;
            marks = marks_row rows i none w.mark_row.new.marks.items lt
                (w.mark_row.ensures.marks (is_start (take i rows)) was.marks (λ s low is. was.covered s (covered s low is)));
            covered = λ s is. elim w.later-last.ensures [
              | inl same ↦ covers_before rows i none c.loop-row.last lt was.covered s (ap (leaves_at s) (sym same) ∙ is)
              | inr same ↦ covers_here rows i none lt s (ap (leaves_at s) (sym same) ∙ is)
            ];
          })
      | else-covers w ↦
          rw (w.marks-is, w.last-is) (record {
            len = w.mark_row-else-covers.ensures.len ∙ was.len;
            marks = marks_row rows i none w.mark_row-else-covers.new.marks.items lt
                (w.mark_row-else-covers.ensures.marks (is_start (take i rows)) was.marks (λ s low is. absurd (omega (arith, low))));
            covered = λ s is. covers_here rows i none lt s is;
          })
    ]
