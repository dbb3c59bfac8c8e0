use Rattle.std.proofs.Common.{◌∙◌, ◌++◌, ap, codes, decimal, string_bytes}
use Rattle.image_facts.specs.Json.{names_json}
use Rattle.text_pieces.proofs.Joined.{four}
use Rattle.image_facts.proofs.json.append_names.Goals as goal

pub returns : goal.returns
unfolding names_json
returns c =
    four (string_bytes c.args.json.now) (string_bytes c.put_number.new.out) (string_bytes c.put_number-2.new.out)
    (string_bytes c.put_number-3.new.out) (string_bytes c.put_number-4.new.out) _ _ _ _
    (c.in_ok-put_number.ensures ∙ ap (λ n. string_bytes c.args.json.now ++ (codes ",\"layout\":" ++ decimal n)) c.header_of-header.ensures.layout)
    (c.in_ok-put_number-2.ensures
    ∙ ap (λ n. string_bytes c.put_number.new.out ++ (codes ",\"name-bytes\":" ++ decimal n)) c.header_of-header.ensures.names)
    (c.in_ok-put_number-3.ensures ∙ ap (λ n. string_bytes c.put_number-2.new.out ++ (codes ",\"stops\":" ++ decimal n)) c.stops.ensures.stops)
    (c.in_ok-put_number-4.ensures ∙ ap (λ n. string_bytes c.put_number-3.new.out ++ (codes ",\"trips\":" ++ decimal n)) c.trips.ensures)
