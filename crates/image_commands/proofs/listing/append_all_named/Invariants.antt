use Rattle.std.proofs.Common.{◌≡◌, ◌++◌, take, string_bytes}
use Rattle.std.specs.List.{flat_map}
use Rattle.departure_lines.specs.Words.{departure_line}
use Rattle.image_files.specs.Naming.{printed}
use Rattle.image_commands.specs.Listing.{named_text}
use Rattle.image_commands.proofs.listing.append_all_named.Given as goal

abbrev pub invariant-loop-departure : goal.invariant-loop-departure
invariant-loop-departure g l = string_bytes l.lines ≡ string_bytes l.fn.lines
    ++ flat_map (departure_line g.C.ShowsFigures.figures (named_text (printed l.names l.image))) (take l.departure-index l.departures)
