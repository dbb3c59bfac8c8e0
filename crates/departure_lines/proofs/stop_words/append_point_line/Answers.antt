use Rattle.std.proofs.Common.{◌++◌, ◌∙◌, ap, string_bytes}
use Rattle.departure_lines.specs.Lines.{point_line}
use Rattle.departure_lines.specs.Words.{values_text}
use Rattle.text_pieces.proofs.Joined.{four}
use Rattle.departure_lines.proofs.stop_words.append_point_line.Goals as goal

pub returns : goal.returns
unfolding point_line
returns g c =
    four (string_bytes c.args.lines.now) (string_bytes c.put_text.new.out) (string_bytes c.put_text-2.new.out)
    (string_bytes c.append_values.new.lines) (string_bytes c.put_text-3.new.out) _ _ _ _
    c.in_ok-put_text.ensures c.in_ok-put_text-2.ensures
    (c.in_ok-append_values.ensures
    ∙ ap (λ figures. string_bytes c.put_text-2.new.out ++ values_text c.args.point.now.departure figures) c.figures_of.ensures)
    c.in_ok-put_text-3.ensures
