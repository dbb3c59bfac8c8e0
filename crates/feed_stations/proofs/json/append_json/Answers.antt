use Rattle.std.proofs.Common.{◌∙◌, ◌++◌, List, ap, codes, string_bytes, ℕ}
use Rattle.text_pieces.proofs.Joined.{five}
use Rattle.text_pieces.specs.Json.{quoted_text}
use Rattle.feed_stations.specs.Json.{row_json}
use Rattle.feed_stations.proofs.json.append_json.Goals as goal

pub returns : goal.returns
unfolding row_json
returns c =
    five (string_bytes c.args.out.now) (string_bytes c.put_quoted.new.out) (string_bytes c.put_quoted-2.new.out)
    (string_bytes c.append_stops.new.out) (string_bytes c.put_quoted-3.new.out) (string_bytes c.put_text.new.out) _ _ _ _ _
    (c.in_ok-put_quoted.ensures ∙ ap (λ (id : List ℕ). string_bytes c.args.out.now ++ quoted_text (codes "{\"id\":") id) c.id.ensures)
    (c.in_ok-put_quoted-2.ensures ∙ ap (λ (name : List ℕ). string_bytes c.put_quoted.new.out ++ quoted_text (codes ",\"name\":") name) c.name.ensures)
    c.in_ok-append_stops.ensures
    (c.in_ok-put_quoted-3.ensures ∙ ap (λ (kind : List ℕ). string_bytes c.append_stops.new.out ++ quoted_text (codes ",\"type\":") kind) c.kind.ensures)
    c.in_ok-put_text.ensures
