use Rattle.std.proofs.Common.{string_bytes}
use Rattle.departure_lines.specs.Lines.{sum_words}
use Rattle.text_pieces.proofs.Joined.{four}
use Rattle.departure_lines.proofs.stop_words.append_sum_words.Goals as goal

pub returns : goal.returns
unfolding sum_words
returns c =
    four (string_bytes c.args.lines.now) (string_bytes c.put_text.new.out) (string_bytes c.put_number.new.out) (string_bytes c.put_clock.new.out)
    (string_bytes c.put_clock-2.new.out) _ _ _ _
    c.in_ok-put_text.ensures c.in_ok-put_number.ensures c.in_ok-put_clock.ensures c.in_ok-put_clock-2.ensures
