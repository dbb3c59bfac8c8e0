use Rattle.std.proofs.Common.{◌∙◌, ◌≤◌, true, refl, arith, rules}
use Rattle.std.proofs.lemmas.List.{length-set}
use Rattle.connections.proofs.MarkSteps.{marks_begin, marks_end, marks_skip, marks_step, row_over, start_again}
use Rattle.connections.proofs.marks.mark_row.Goals as goal

pub loop-next-init : goal.loop-next-init
loop-next-init c = record {
  len = refl;
  start = λ lt. c.in-Some.ensures.next.is;
  marks = λ test are covered.
      marks_skip test c.args.marks.now.items c.args.row c.args.from c.in-Some.first
      (marks_begin test c.args.marks.now.items c.args.row c.args.from are covered) c.in-Some.ensures.next.after c.in-Some.ensures.next.first;
}

pub loop-next-preserved : goal.loop-next-preserved
loop-next-preserved c =
    let is = c.loop-next.invariant.start c.loop-next-test.true in
    let len = c.loop-next.invariant.len in
    let within = c.requires in
    let lt = c.loop-next-test.true in
    let fits : c.args.row.end ≤ 4294967295 = search rules in
    record {
      len = length-set c.loop-next.marks.items c.loop-next.next true ∙ len;
      start = λ early. start_again c.args.row c.loop-next.next c.saturating_add-next.result 4294967295 is c.saturating_add-next.ensures fits early;
      marks = λ test are covered.
          marks_step test c.loop-next.marks.items c.args.row c.loop-next.next c.saturating_add-next.result 4294967295
          (c.loop-next.invariant.marks test are covered) is
          (omega (arith, lt, within, len)) (omega (arith, lt, fits)) c.saturating_add-next.ensures;
    }

pub returns-clause-marks : goal.returns-clause-marks
returns-clause-marks c test are covered =
    let over = c.loop-next-test.false in
    marks_end test c.loop-next.marks.items c.args.row c.loop-next.next (c.loop-next.invariant.marks test are covered)
    (λ s late. row_over c.args.row s (omega (arith, over, late)))
