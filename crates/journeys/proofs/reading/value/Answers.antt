use Rattle.std.proofs.Common.{◌+◌, ◌-◌, ◌*◌, sym, arith, get_or, drop}
use Rattle.journeys.proofs.NumberLemmas.{read_on-from, read_on-ge, value_of-large}
use Rattle.journeys.proofs.reading.value.Goals as goal

pub returns-then-next : goal.returns-then-next
returns-then-next c =
    let ds = c.args.digits.now in
    let i = c.loop-digit.digit-index in
    let n = c.loop-digit.value in
    let step = read_on-from ds i n 0 c.loop-digit-test.true in
    let more = read_on-ge (drop (i + 1) ds) (10 * n + (get_or ds i 0 - 48)) in
    sym (value_of-large ds (omega (arith, step, more, c.loop-digit.invariant.so_far)))
