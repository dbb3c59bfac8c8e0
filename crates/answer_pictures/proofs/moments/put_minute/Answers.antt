use Rattle.std.proofs.Common.{◌/◌, ◌%◌, ap, ◌∙◌, arith}
use Rattle.std.specs.Fmt.{styled_decimal}
use Rattle.timetable.proofs.ClockLemmas.{padded_is_two_digits}
use Rattle.answer_pictures.proofs.moments.put_minute.Goals as goal

pub returns : goal.returns
returns c =
    let time = c.args.time in
    let hours = ap (λ s. styled_decimal s (time / 3600 % 24)) c.laid_out.ensures ∙ padded_is_two_digits (time / 3600 % 24) (omega arith) in
    let minutes = ap (λ s. styled_decimal s (time / 60 % 60)) c.laid_out-2.ensures ∙ padded_is_two_digits (time / 60 % 60) (omega arith) in
    rw (hours, minutes) at c.write.ensures.bytes
