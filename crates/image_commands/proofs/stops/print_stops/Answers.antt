use Rattle.std.proofs.Common.{◌≡◌, rules}
use Rattle.command_endings.proofs.Outcomes.{written}
use Rattle.image_commands.specs.StopLines.{stops_text}
use Rattle.image_commands.proofs.stops.print_stops.Goals as goal

pub returns-in-Ok : goal.returns-in-Ok
returns-in-Ok g c =
    let text = stops_text c.args.json c.args.names c.args.image.now.names c.args.found.now in
    let same : c.as_str.result.now ≡ text = search rules in
    let wrote = c.write_text.ensures in
    written (λ printed. printed ≡ text) _ _ c.as_str.result.now _ _ same wrote.status wrote.written wrote.begun wrote.failed
