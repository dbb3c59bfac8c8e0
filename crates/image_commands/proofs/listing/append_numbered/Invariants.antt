use Rattle.std.proofs.Common.{◌≡◌, ◌++◌, take, string_bytes}
use Rattle.std.specs.List.{flat_map}
use Rattle.departure_lines.specs.Words.{departure_line, numbered_text}
use Rattle.image_commands.proofs.listing.append_numbered.Given as goal

abbrev pub invariant-loop-departure : goal.invariant-loop-departure
invariant-loop-departure g l = string_bytes l.lines ≡ string_bytes l.fn.lines
    ++ flat_map (departure_line g.C.ShowsFigures.figures numbered_text) (take l.departure-index l.departures)
