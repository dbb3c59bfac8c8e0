use Rattle.std.proofs.Common.{◌≡◌, ◌<◌, ℕ, length, get_or, inl, inr, sym, ap, ◌∙◌, subst, arith, rules, ℤ, pos, FitsSigned, w64}
use Rattle.std.proofs.lemmas.Bool.{cases_eq}
use Rattle.std.proofs.lemmas.Int.{to_z-of_z}
use Rattle.std.proofs.lemmas.List.{get_or_default}
use Rattle.service_days.specs.Zones.{IsDayStart}
use Rattle.connections.specs.declared.days.ServiceDay.{ServiceDay}
use Rattle.connections.proofs.DaySteps.{found_start, never_missing, other_day}
use Rattle.connections.proofs.listing.start_of.Goals as goal

no_day : ServiceDay
no_day = record { day = record { year = 0; month = 0; day = 0 }; start = pos 0 }

pub returns-then-eq : goal.returns-then-eq
returns-then-eq c zone starts =
    let none : ServiceDay = record { day = record { year = 0; month = 0; day = 0 }; start = pos 0 } in
    let start = (get_or c.args.days.now c.loop-service_day.service_day-index none).start in
    let fits : FitsSigned w64 start = search rules in
    subst (λ (z : ℤ). IsDayStart zone c.args.day z) (sym (to_z-of_z w64 start fits))
    (found_start zone c.args.days.now c.loop-service_day.service_day-index none c.args.day c.loop-service_day-test.true starts c.if-eq.ensures)

pub unreachable-requires : goal.unreachable-requires
unreachable-requires c =
    never_missing c.args.days.now c.args.day no_day c.requires
    (λ k d lt is. c.loop-service_day.invariant k d (let end = c.loop-service_day-test.false in omega (arith, end, lt)) is)

pub loop-service_day-preserved : goal.loop-service_day-preserved
loop-service_day-preserved c k d lt is =
    let none : ServiceDay = record { day = record { year = 0; month = 0; day = 0 }; start = pos 0 } in
    let here = c.loop-service_day.service_day-index in
    let below : here < length c.args.days.now = c.loop-service_day-test.true in
    elim (cases_eq k here) [
      | inl same ↦
          let at : (get_or c.args.days.now here none).day ≡ c.args.day = ap (λ (x : ServiceDay). x.day) (get_or_default c.args.days.now here none d below)
          ∙ ap (λ (n : ℕ). (get_or c.args.days.now n d).day) (sym same) ∙ is in
          other_day (get_or c.args.days.now here none).day c.args.day c.if-eq.ensures at
      | inr other ↦ c.loop-service_day.invariant k d (omega (arith, lt, other)) is
    ]
