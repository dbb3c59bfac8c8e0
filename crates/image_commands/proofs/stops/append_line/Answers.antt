use Rattle.std.proofs.Common.{◌++◌, ◌∙◌, List, ap, codes, string_bytes, ℕ}
use Rattle.image_commands.specs.StopLines.{stop_line}
use Rattle.text_pieces.proofs.Joined.{three}
use Rattle.image_commands.proofs.stops.append_line.Goals as goal

pub returns : goal.returns
unfolding stop_line
returns c =
    three (string_bytes c.args.lines.now) (string_bytes c.append_number.new.lines) (string_bytes c.put_word.new.out) (string_bytes c.put_text.new.out) _ _ _
    c.in_ok-append_number.ensures
    (c.in_ok-put_word.ensures
    ∙ ap (λ (name : List ℕ). string_bytes c.append_number.new.lines ++ (codes " " ++ name)) (c.as_str.ensures.value ∙ c.in_ok-name.ensures))
    c.in_ok-put_text.ensures
