use Rattle.std.proofs.Common.{rules}
use Rattle.image_commands.specs.Informing.{IsInfo}
use Rattle.command_endings.proofs.Outcomes.{written}
use Rattle.image_commands.proofs.info.run.Goals as goal

pub returns-in-Ok : goal.returns-in-Ok
returns-in-Ok g c =
    let image = c.args.image.now in
    let json = c.args.request.json in
    let info : IsInfo json image c.as_str.result.now = search rules in
    let wrote = c.write_text.ensures in
    written (IsInfo json image) _ _ c.as_str.result.now _ _ info wrote.status wrote.written wrote.begun wrote.failed
