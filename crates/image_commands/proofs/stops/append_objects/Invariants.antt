use Rattle.std.proofs.Common.{◌≡◌, ◌++◌, map, take, string_bytes}
use Rattle.text_pieces.specs.Json.{with_commas}
use Rattle.image_commands.specs.StopLines.{stop_json}
use Rattle.image_commands.proofs.stops.append_objects.Given as goal

abbrev pub invariant-loop-at : goal.invariant-loop-at
invariant-loop-at l = string_bytes l.json ≡ string_bytes l.fn.json ++ with_commas (map (stop_json l.image.names) (take l.at l.found))
