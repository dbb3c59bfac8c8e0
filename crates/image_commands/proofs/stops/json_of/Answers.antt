use Rattle.std.proofs.Common.{[], ◌++◌, ◌∙◌, ap, codes, string_bytes}
use Rattle.text_pieces.proofs.Joined.{three}
use Rattle.image_commands.proofs.stops.json_of.Goals as goal

pub returns : goal.returns
returns c =
    three [] (string_bytes c.put_text.new.out) (string_bytes c.append_objects.new.json) (string_bytes c.put_text-2.new.out) _ _ _
    (c.in_ok-put_text.ensures ∙ ap (λ o. o ++ codes "[") c.new-json.ensures.bytes)
    c.in_ok-append_objects.ensures c.in_ok-put_text-2.ensures
