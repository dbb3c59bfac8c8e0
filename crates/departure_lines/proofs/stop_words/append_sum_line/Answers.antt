use Rattle.std.proofs.Common.{◌++◌, ◌∙◌, ap, codes, decimal, string_bytes}
use Rattle.departure_lines.specs.Lines.{sum_line}
use Rattle.text_pieces.proofs.Joined.{four}
use Rattle.departure_lines.proofs.stop_words.append_sum_line.Goals as goal

pub returns : goal.returns
unfolding sum_line
returns c =
    four (string_bytes c.args.lines.now) (string_bytes c.append_sum_words.new.lines) (string_bytes c.put_number.new.out)
    (string_bytes c.append_direct.new.lines) (string_bytes c.put_text.new.out) _ _ _ _
    c.in_ok-append_sum_words.ensures
    (c.in_ok-put_number.ensures ∙ ap (λ n. string_bytes c.append_sum_words.new.lines ++ (codes " least " ++ decimal n)) c.from.ensures)
    c.in_ok-append_direct.ensures c.in_ok-put_text.ensures
