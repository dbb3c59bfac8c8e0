use Rattle.std.proofs.Common.{◌<◌, ℕ, length, get_or, inl, inr, sym, subst, arith}
use Rattle.std.proofs.lemmas.Bool.{cases_eq}
use Rattle.std.proofs.lemmas.List.{get_or_default}
use Rattle.connections.specs.Hops.{IsInside, zero_of}
use Rattle.connections.specs.declared.times.RowTimes.{RowTimes}
use Rattle.connections.proofs.hops.are_inside.Goals as goal

pub loop-position-preserved : goal.loop-position-preserved
loop-position-preserved c k d lt =
    let none : RowTimes = record { arrival = 0; departure = 0 } in
    let below : c.loop-position.position < length c.args.times.now = c.loop-position-test.true in
    elim (cases_eq k c.loop-position.position) [
      | inl same ↦
          let position : k < length c.args.times.now = omega (arith, same, below) in
          subst (λ (t : RowTimes). IsInside c.args.clock.day.base (zero_of c.args.clock) c.args.clock.start k t)
          (get_or_default c.args.times.now k none d position)
          (subst (λ (n : ℕ). IsInside c.args.clock.day.base (zero_of c.args.clock) c.args.clock.start n (get_or c.args.times.now n none)) (sym same)
          c.if-not-is_inside.ensures)
      | inr other ↦ c.loop-position.invariant k d (omega (arith, lt, other))
    ]

pub returns : goal.returns
returns c k d lt = c.loop-position.invariant k d (let end = c.loop-position-test.false in omega (arith, end, lt))
