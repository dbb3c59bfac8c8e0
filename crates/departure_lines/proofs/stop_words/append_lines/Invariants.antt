use Rattle.std.proofs.Common.{◌≡◌, ◌++◌, take, string_bytes}
use Rattle.std.specs.List.{flat_map}
use Rattle.departure_lines.specs.Lines.{line_from}
use Rattle.departure_lines.proofs.stop_words.append_lines.Given as goal

abbrev pub invariant-loop-departure : goal.invariant-loop-departure
invariant-loop-departure g l = string_bytes l.lines ≡ string_bytes l.fn.lines
    ++ flat_map (line_from g.C.ShowsFigures.figures l.name) (take l.departure-index l.departures)
