use Rattle.std.proofs.Common.{◌∙◌, ◌++◌, List, ap, codes, string_bytes, ℕ}
use Rattle.text_pieces.proofs.Joined.{three}
use Rattle.text_pieces.specs.Json.{quoted_text}
use Rattle.feed_stations.specs.Json.{stop_json}
use Rattle.feed_stations.proofs.json.append_stop.Goals as goal

pub returns : goal.returns
unfolding stop_json
returns c =
    three (string_bytes c.args.out.now) (string_bytes c.put_quoted.new.out) (string_bytes c.put_quoted-2.new.out) (string_bytes c.put_text.new.out) _ _ _
    (c.in_ok-put_quoted.ensures ∙ ap (λ (id : List ℕ). string_bytes c.args.out.now ++ quoted_text (codes "{\"id\":") id) c.id.ensures)
    (c.in_ok-put_quoted-2.ensures
    ∙ ap (λ (code : List ℕ). string_bytes c.put_quoted.new.out ++ quoted_text (codes ",\"platform\":") code) c.platform.ensures)
    c.in_ok-put_text.ensures
