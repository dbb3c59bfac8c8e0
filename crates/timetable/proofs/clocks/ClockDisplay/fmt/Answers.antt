use Rattle.std.proofs.Common.{◌/◌, ◌%◌, ap, ◌∙◌, arith, append_assoc}
use Rattle.std.specs.Fmt.{styled_decimal}
use Rattle.timetable.proofs.ClockLemmas.{padded_is_two_digits}
use Rattle.timetable.proofs.clocks.ClockDisplay.fmt.Goals as goal

pub returns-clause-writes : goal.returns-clause-writes
returns-clause-writes g c =
    let time = c.args.self.now.0 in
    let hours = ap (λ s. styled_decimal s (time / 3600)) c.laid_out.ensures ∙ padded_is_two_digits (time / 3600) (omega arith) in
    let minutes = ap (λ s. styled_decimal s (time / 60 % 60)) c.laid_out-2.ensures ∙ padded_is_two_digits (time / 60 % 60) (omega arith) in
    let seconds = ap (λ s. styled_decimal s (time % 60)) c.laid_out-3.ensures ∙ padded_is_two_digits (time % 60) (omega arith) in
    rw append_assoc (rw (hours, minutes, seconds) at c.write.ensures.writes)
