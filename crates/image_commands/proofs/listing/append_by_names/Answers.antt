use Rattle.std.proofs.Common.{◌++◌, ◌∙◌, ap, string_bytes}
use Rattle.departure_lines.specs.Words.{departure_line, point_text}
use Rattle.text_pieces.proofs.Joined.{three}
use Rattle.image_commands.proofs.listing.append_by_names.Goals as goal

pub returns : goal.returns
unfolding departure_line
returns g c =
    three (string_bytes c.args.lines.now) (string_bytes c.append_point.new.lines)
    (string_bytes c.append_named.new.lines) (string_bytes c.put_text.new.out) _ _ _
    (c.in_ok-append_point.ensures ∙ ap (λ figures. string_bytes c.args.lines.now ++ point_text c.args.departure.now.time figures) c.figures_of.ensures)
    c.in_ok-append_named.ensures c.in_ok-put_text.ensures
