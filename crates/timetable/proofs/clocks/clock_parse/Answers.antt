use Rattle.std.proofs.Common.{◌<◌, ℕ, arith}
use Rattle.timetable.specs.Clocks.{SpellsClock}
use Rattle.timetable.proofs.ClockLemmas.{spelled_parts, parts_spell, hours_small}
use Rattle.timetable.proofs.clocks.clock_parse.Goals as goal
use Rattle.timetable.proofs.clocks.clock_parse.Goals.{else-minutes-lt-MINUTES_END-via-then-minutes-lt-MINUTES_END+else-seconds-lt-SECONDS_END}
use Rattle.timetable.proofs.clocks.clock_parse.Goals.{else-minutes-lt-MINUTES_END-via-else-minutes-lt-MINUTES_END}

pub overflow_mul-result : goal.overflow_mul-result
overflow_mul-result c =
    let small : c.in_ok-hours.hours < 1000000 = hours_small _ _ (omega arith) c.in_ok-hours.ensures.0 c.in_ok-hours.ensures.1 in
    omega arith

pub overflow_add-result : goal.overflow_add-result
overflow_add-result c =
    let small : c.in_ok-hours.hours < 1000000 = hours_small _ _ (omega arith) c.in_ok-hours.ensures.0 c.in_ok-hours.ensures.1 in
    omega arith

pub overflow_add-result-then-seconds-lt-SECONDS_END : goal.overflow_add-result-then-seconds-lt-SECONDS_END
overflow_add-result-then-seconds-lt-SECONDS_END c =
    let small : c.in_ok-hours.hours < 1000000 = hours_small _ _ (omega arith) c.in_ok-hours.ensures.0 c.in_ok-hours.ensures.1 in
    omega arith

pub returns-then-seconds-lt-SECONDS_END : goal.returns-then-seconds-lt-SECONDS_END
returns-then-seconds-lt-SECONDS_END c =
    let minutes : c.in_ok-minutes.minutes < 60 = omega (arith, c.if-minutes-lt-MINUTES_END.true) in
    let seconds : c.in_ok-seconds.seconds < 60 = omega (arith, c.if-seconds-lt-SECONDS_END.true) in
    parts_spell _ _ _ _ _ _ c.split_at.ensures.by_index.0 (omega arith) (omega arith) c.if-rest-ne58.false c.if-rest-ne58-2.false
    c.in_ok-hours.ensures c.in_ok-minutes.ensures c.in_ok-seconds.ensures minutes seconds

pub returns-else-minutes-lt-MINUTES_END : goal.returns-else-minutes-lt-MINUTES_END
returns-else-minutes-lt-MINUTES_END c = λ time s.
    let parts = spelled_parts c.args.text.now c.split_at.result.0.now c.split_at.result.1.now time c.split_at.ensures.by_index.0 (omega arith) s in
    let minutes = c.in_ok-minutes.ensures.1 in
    let seconds = c.in_ok-seconds.ensures.1 in
    elim c.else-minutes-lt-MINUTES_END.branch [
      | else-minutes-lt-MINUTES_END-via-then-minutes-lt-MINUTES_END+else-seconds-lt-SECONDS_END w ↦ omega (arith, parts.small.1)
      | else-minutes-lt-MINUTES_END-via-else-minutes-lt-MINUTES_END w ↦ omega (arith, parts.small.0)
    ]

pub returns-in_err-minutes : goal.returns-in_err-minutes
returns-in_err-minutes c =
    let none : (time : ℕ) → SpellsClock c.args.text.now time → ⊥ = λ time s. c.in_err-minutes.ensures
    ((spelled_parts c.args.text.now c.split_at.result.0.now c.split_at.result.1.now time c.split_at.ensures.by_index.0 (omega arith) s).numerals.1) in
    rw c.from_residual-in_err-minutes.ensures none

pub returns-in_err-seconds : goal.returns-in_err-seconds
returns-in_err-seconds c =
    let none : (time : ℕ) → SpellsClock c.args.text.now time → ⊥ = λ time s. c.in_err-seconds.ensures
    ((spelled_parts c.args.text.now c.split_at.result.0.now c.split_at.result.1.now time c.split_at.ensures.by_index.0 (omega arith) s).numerals.2) in
    rw c.from_residual-in_err-seconds.ensures none
