use Rattle.std.proofs.Common.{◌<◌, ◌^◌, get_or, arith}
use Rattle.reasoning.proofs.DigitLemmas.{few_digits}
use Rattle.gtfs_rows.proofs.values.decimal.Goals as goal

pub overflow_mul-number : goal.overflow_mul-number
overflow_mul-number c = let small : c.loop-byte.number < 10 ^ 8 =
    few_digits c.loop-byte.number c.loop-byte.byte-index (omega arith)
    c.loop-byte.invariant.small in omega arith

pub overflow_add-number : goal.overflow_add-number
overflow_add-number c =
    let small : c.loop-byte.number < 10 ^ 8 = few_digits c.loop-byte.number c.loop-byte.byte-index (omega arith) c.loop-byte.invariant.small in
    let byte : get_or c.args.digits.now c.loop-byte.byte-index 0 < 256 = omega (arith, c.type_inv.digits c.loop-byte.byte-index) in
    omega arith
