-- The stops that are printed are those that were found.
use Rattle.std.proofs.Common.{◌≡◌, List, ℕ}
use Rattle.command_endings.specs.Ending.{PrintsOnly}
use Rattle.command_endings.proofs.Outcomes.{outcome_of}
use Rattle.image_commands.specs.StopLines.{AreStopsAsked, stops_text}
use Rattle.image_commands.proofs.stops.run.Goals as goal

pub returns-after-is_empty : goal.returns-after-is_empty
returns-after-is_empty g c =
    let image = c.args.image.now in
    let request = c.args.request in
    let form = c.args.names in
    let found : List ℕ = c.in-Ok.found.items in
    outcome_of (PrintsOnly (λ text. text ≡ stops_text request.json form image.names found)) (PrintsOnly (AreStopsAsked form image request)) _ _ _ _ _ _
    (λ s text is. (is.0, (found, c.in-Ok.ensures, is.1))) (λ none. none) (rw c.deref.ensures.value at c.print_stops.ensures)
