use Rattle.std.proofs.Common.{◌++◌, ◌∙◌, map, ap, string_bytes, arith}
use Rattle.std.proofs.lemmas.List.{length-map}
use Rattle.departure_lines.specs.Json.{journey_json}
use Rattle.departure_lines.proofs.LinesIfSome.{line_if_some}
use Rattle.text_pieces.proofs.Joined.{three}
use Rattle.departure_lines.proofs.stop_json.append_json.Goals as goal

pub returns : goal.returns
returns g c =
    let texts = map (journey_json g.C.ShowsFigures.figures) c.args.departures.now in
    let long = length-map c.args.departures.now (journey_json g.C.ShowsFigures.figures) in
    three (string_bytes c.args.lines.now) (string_bytes c.append_head.new.lines) (string_bytes c.append_journeys.new.lines)
    (string_bytes c.append_tail.new.lines) _ _ _
    c.in_ok-append_head.ensures c.in_ok-append_journeys.ensures c.in_ok-append_tail.ensures
    ∙ ap (λ text. string_bytes c.args.lines.now ++ text) (line_if_some c.args.name.now texts c.args.walk (omega (arith, long)))
