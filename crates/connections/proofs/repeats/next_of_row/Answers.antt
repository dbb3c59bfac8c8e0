use Rattle.std.proofs.Common.{◌≡◌, ◌+◌, ◌%◌, ◌≤◌, Fits, w32, rules, arith, inl, inr, ap, ◌∙◌}
use Rattle.std.proofs.lemmas.Bool.{cases_lt, ne_eqb}
use Rattle.connections.proofs.RepeatSteps.{IsAwaited, positive, row_never, row_next, wait_of}
use Rattle.connections.proofs.repeats.next_of_row.Goals.{After-max}
use Rattle.connections.proofs.repeats.next_of_row.Goals as goal
use Rattle.connections.proofs.repeats.next_of_row.Goals.{then-past-eq0, else-past-eq0}

waits : (c : goal.After-max) → c.if-past-eq0.wait ≡ wait_of (c.saturating_sub.result % c.args.row.headway) c.args.row.headway
waits c = elim c.if-past-eq0.branch [
  | then-past-eq0 w ↦ rw w.if-past-eq0.true w.wait-is
  | else-past-eq0 w ↦ rw (ne_eqb (c.saturating_sub.result % c.args.row.headway) 0 w.if-past-eq0.false) w.wait-is
]

awaited : (c : goal.After-max)
    → IsAwaited c.args.row c.args.from (c.saturating_sub.result % c.args.row.headway) c.if-past-eq0.wait
awaited c = record {
  some = positive c.args.row.headway c.if-row-eq0.false;
  passed = ap (λ n. n % c.args.row.headway) c.saturating_sub.ensures;
  waits = waits c;
}

pub returns-in_err-start-clause-next : goal.returns-in_err-start-clause-next
returns-in_err-start-clause-next c =
    let fits : Fits w32 c.args.row.end = search rules in
    let over : c.args.row.end ≤ c.max.result + c.if-past-eq0.wait =
    elim (cases_lt (c.max.result + c.if-past-eq0.wait) c.args.row.end)
    [ inl less ↦ absurd (c.in_err-start.ensures (omega (arith, less, fits))) | inr more ↦ more ] in
    rw c.from_residual.ensures
    (row_never c.args.row c.args.from _ c.if-past-eq0.wait (c.max.result + c.if-past-eq0.wait)
    (awaited (goal.at.returns-in_err-start-clause-next c).After-max)
    (ap (λ n. n + c.if-past-eq0.wait) c.max.ensures) over)

pub returns-then-start-row-clause-next : goal.returns-then-start-row-clause-next
returns-then-start-row-clause-next c =
    row_next c.args.row c.args.from _ c.if-past-eq0.wait c.in_ok-start.start (awaited (goal.at.returns-then-start-row-clause-next c).After-max)
    (c.in_ok-start.ensures.1 ∙ ap (λ n. n + c.if-past-eq0.wait) c.max.ensures) (omega (arith, c.if-start-row.true))

pub returns-else-start-row-clause-next : goal.returns-else-start-row-clause-next
returns-else-start-row-clause-next c =
    row_never c.args.row c.args.from _ c.if-past-eq0.wait c.in_ok-start.start (awaited (goal.at.returns-else-start-row-clause-next c).After-max)
    (c.in_ok-start.ensures.1 ∙ ap (λ n. n + c.if-past-eq0.wait) c.max.ensures) (omega (arith, c.if-start-row.false))
