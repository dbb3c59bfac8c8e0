use Rattle.std.proofs.Common.{◌≡◌, ◌<◌, ◌≤◌, ◌∙◌, ◌++◌, ◌∷◌, [], sym, ap, subst, get_or, List, All, length, arith, rules}
use Rattle.std.specs.Prelude.{IsPermutation}
use Rattle.gtfs_tables.specs.declared.tables.Frequency.{Frequency}
use Rattle.connections.specs.Repeats.{is_start}
use Rattle.connections.proofs.MarkSteps.{ends_moved, starts_marked, starts_with, starts_without}
use Rattle.connections.proofs.RepeatSteps.{starts_none}
use Rattle.connections.proofs.marks.marked_starts.Goals as goal
use Rattle.connections.proofs.marks.marked_starts.Goals.{then-index+in_ok-push, else-index}

pub marks_of-requires : goal.marks_of-requires
marks_of-requires c =
    subst (λ (rs : List Frequency). All (λ (row : Frequency). row.end ≤ c.end_of-end.result) rs) (sym c.deref.ensures.value)
    (ends_moved c.args.rows.now c.in_ok-sorted.sorted.items c.end_of-end.result c.in_ok-sorted.ensures c.end_of-end.ensures)

pub loop-second-init : goal.loop-second-init
loop-second-init c = c.new-starts.ensures.items ∙ sym (starts_none c.args.rows.now)

pub loop-second-preserved : goal.loop-second-preserved
loop-second-preserved c =
    let rows = c.args.rows.now in
    let second = c.loop-second.second in
    let moved : IsPermutation rows c.deref.result.now = subst (λ (rs : List Frequency). IsPermutation rows rs) (sym c.deref.ensures.value)
    c.in_ok-sorted.ensures in
    let len : length c.in_ok-marks.marks.items ≡ c.end_of-end.result = c.in_ok-marks.ensures.len in
    let lt : second < length c.in_ok-marks.marks.items = (let below = c.loop-second-test.true in omega (arith, below, len)) in
    let is : c.index.result.now ≡ get_or c.in_ok-marks.marks.items second c.index.result.now = search rules in
    let fact : c.index.result.now ≡ is_start rows second =
    starts_marked rows c.deref.result.now c.in_ok-marks.marks.items second c.index.result.now moved c.in_ok-marks.ensures.marks lt is in
    elim c.if-index.branch [
      | then-index+in_ok-push w ↦
          rw w.starts-is (w.in_ok-push.ensures.items ∙ ap (λ xs. xs ++ second ∷ []) c.loop-second.invariant
          ∙ sym (starts_with rows second (sym fact ∙ w.if-index.true)))
      | else-index w ↦ rw w.starts-is (c.loop-second.invariant ∙ sym (starts_without rows second (sym fact ∙ w.if-index.false)))
    ]
