use Rattle.std.proofs.Common.{◌++◌, ◌∙◌, ap, codes, string_bytes}
use Rattle.text_pieces.specs.Json.{quoted_text}
use Rattle.image_commands.specs.StopLines.{stop_json}
use Rattle.text_pieces.proofs.Joined.{three}
use Rattle.image_commands.proofs.stops.append_object.Goals as goal

pub returns : goal.returns
unfolding stop_json
returns c =
    three (string_bytes c.args.json.now) (string_bytes c.put_quoted.new.out) (string_bytes c.put_number.new.out) (string_bytes c.put_text.new.out) _ _ _
    (c.in_ok-put_quoted.ensures
    ∙ ap (λ name. string_bytes c.args.json.now ++ quoted_text (codes "{\"id\":") name) (c.as_str.ensures.value ∙ c.in_ok-name.ensures))
    c.in_ok-put_number.ensures c.in_ok-put_text.ensures
