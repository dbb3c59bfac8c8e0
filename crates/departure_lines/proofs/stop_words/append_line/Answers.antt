use Rattle.std.proofs.Common.{string_bytes}
use Rattle.departure_lines.specs.Lines.{line_from}
use Rattle.text_pieces.proofs.Joined.{three}
use Rattle.departure_lines.proofs.stop_words.append_line.Goals as goal

pub returns : goal.returns
unfolding line_from
returns g c =
    three (string_bytes c.args.lines.now) (string_bytes c.put_text.new.out) (string_bytes c.put_text-2.new.out)
    (string_bytes c.append_by_numbers.new.lines) _ _ _
    c.in_ok-put_text.ensures c.in_ok-put_text-2.ensures c.in_ok-append_by_numbers.ensures
