use Rattle.std.proofs.Common.{◌++◌, ◌∙◌, ap, string_bytes}
use Rattle.text_pieces.specs.Json.{quoted_text}
use Rattle.text_pieces.proofs.Joined.{two}
use Rattle.text_pieces.proofs.json.put_quoted.Goals as goal

pub returns : goal.returns
unfolding quoted_text
returns c =
    two (string_bytes c.args.out.now) (string_bytes c.put_text.new.out) (string_bytes c.put_text-2.new.out) _ _
    c.in_ok-put_text.ensures
    (c.in_ok-put_text-2.ensures ∙ ap (λ bytes. string_bytes c.put_text.new.out ++ bytes) (c.as_str.ensures.value ∙ c.in_ok-quoted.ensures))
