use Rattle.image_commands.proofs.StopLines.{none_found}
use Rattle.image_commands.proofs.stops.found_stops.Goals as goal

pub loop-stop-init : goal.loop-stop-init
loop-stop-init c = none_found c.args.image.now.names c.args.text.now _ c.new-found.ensures.items

pub loop-stop-preserved : goal.loop-stop-preserved
loop-stop-preserved c = c.in_ok-add_next.ensures c.loop-stop.invariant
