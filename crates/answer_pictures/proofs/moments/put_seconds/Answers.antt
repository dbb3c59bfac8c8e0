use Rattle.std.proofs.Common.{◌%◌, ap, ◌∙◌, arith}
use Rattle.std.specs.Fmt.{styled_decimal}
use Rattle.timetable.proofs.ClockLemmas.{padded_is_two_digits}
use Rattle.answer_pictures.proofs.moments.put_seconds.Goals as goal

pub returns-then-exact : goal.returns-then-exact
returns-then-exact c =
    let time = c.args.time in
    let seconds = ap (λ s. styled_decimal s (time % 60)) c.laid_out.ensures ∙ padded_is_two_digits (time % 60) (omega arith) in
    rw c.if-exact.true (rw seconds at c.write.ensures.bytes)
