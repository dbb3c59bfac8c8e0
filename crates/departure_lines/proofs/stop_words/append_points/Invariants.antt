use Rattle.std.proofs.Common.{◌≡◌, ◌++◌, take, string_bytes}
use Rattle.std.specs.List.{flat_map}
use Rattle.departure_lines.specs.Lines.{point_line}
use Rattle.departure_lines.proofs.stop_words.append_points.Given as goal

abbrev pub invariant-loop-point : goal.invariant-loop-point
invariant-loop-point g l = string_bytes l.lines ≡ string_bytes l.fn.lines
    ++ flat_map (point_line g.C.ShowsFigures.figures l.name) (take l.point-index l.points)
