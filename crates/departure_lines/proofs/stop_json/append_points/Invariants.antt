use Rattle.std.proofs.Common.{◌≡◌, ◌++◌, map, take, string_bytes}
use Rattle.text_pieces.specs.Json.{with_commas}
use Rattle.departure_lines.specs.Json.{point_json}
use Rattle.departure_lines.proofs.stop_json.append_points.Given as goal

abbrev pub invariant-loop-index : goal.invariant-loop-index
invariant-loop-index g l = string_bytes l.lines ≡ string_bytes l.fn.lines ++ with_commas (map (point_json g.C.ShowsFigures.figures) (take l.index l.points))
