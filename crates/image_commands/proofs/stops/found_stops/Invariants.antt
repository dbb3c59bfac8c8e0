use Rattle.image_commands.specs.StopLines.{AreFound}
use Rattle.image_commands.proofs.stops.found_stops.Given as goal

abbrev pub invariant-loop-stop : goal.invariant-loop-stop
invariant-loop-stop l = AreFound l.image.names l.text l.stop l.found.items
