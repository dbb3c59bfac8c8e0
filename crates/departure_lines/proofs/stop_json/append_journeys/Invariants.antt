use Rattle.std.proofs.Common.{◌≡◌, ◌++◌, map, take, string_bytes}
use Rattle.text_pieces.specs.Json.{with_commas}
use Rattle.departure_lines.specs.Json.{journey_json}
use Rattle.departure_lines.proofs.stop_json.append_journeys.Given as goal

abbrev pub invariant-loop-index : goal.invariant-loop-index
invariant-loop-index g l = string_bytes l.lines ≡ string_bytes l.fn.lines ++ with_commas
    (map (journey_json g.C.ShowsFigures.figures) (take l.index l.departures))
