use Rattle.std.proofs.Common.{rules}
use Rattle.profile_scan.specs.Destinations.{question_to_any}
use Rattle.departure_lines.specs.Showing.{names_of}
use Rattle.image_files.specs.Naming.{printed}
use Rattle.image_commands.specs.Departing.{AreShownBy}
use Rattle.command_endings.proofs.Outcomes.{written}
use Rattle.image_commands.proofs.departures.print_all.Goals as goal

pub returns-in-Ok : goal.returns-in-Ok
returns-in-Ok g c =
    let request = c.args.request.now in
    let asked = question_to_any c.args.destinations.now in
    let image = printed (names_of request.form c.args.names) c.args.image.now in
    let shown : AreShownBy request.criterion request.form image asked c.args.wanted.now c.as_str.result.now = search rules in
    let wrote = c.write_text.ensures in
    written (AreShownBy request.criterion request.form image asked c.args.wanted.now) _ _ c.as_str.result.now _ _ shown
    wrote.status wrote.written wrote.begun wrote.failed
