use Rattle.std.proofs.Common.{◌≡◌, ◌++◌, string_bytes, take}
use Rattle.std.specs.List.{flat_map}
use Rattle.image_files.specs.Naming.{names_in}
use Rattle.image_commands.specs.StopLines.{stop_line}
use Rattle.image_commands.proofs.stops.append_lines.Given as goal

abbrev pub invariant-loop-stop : goal.invariant-loop-stop
invariant-loop-stop l = string_bytes l.lines ≡ string_bytes l.fn.lines ++ flat_map (stop_line (names_in l.names l.image.names)) (take l.stop-index l.found)
