use Rattle.std.proofs.Common.{◌<◌, ◌^◌, arith}
use Rattle.reasoning.proofs.DigitLemmas.{few_digits}
use Rattle.timetable.proofs.clocks.numeral.Goals as goal

pub overflow_mul-number : goal.overflow_mul-number
overflow_mul-number c =
    let small : c.loop-byte.number < 10 ^ 8 = few_digits c.loop-byte.number c.loop-byte.byte-index (omega arith) c.loop-byte.invariant.small in
    omega arith

pub overflow_add-number : goal.overflow_add-number
overflow_add-number c =
    let small : c.loop-byte.number < 10 ^ 8 = few_digits c.loop-byte.number c.loop-byte.byte-index (omega arith) c.loop-byte.invariant.small in
    let digit : c.in_ok-digit.digit < 10 = omega (arith, c.in_ok-digit.ensures.value) in
    omega arith
