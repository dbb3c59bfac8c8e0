use Rattle.std.proofs.Common.{◌≡◌, rules}
use Rattle.image_commands.specs.Counting.{counts_line}
use Rattle.command_endings.proofs.Outcomes.{written}
use Rattle.image_commands.proofs.verify.run.Goals as goal

pub returns-in-Ok : goal.returns-in-Ok
returns-in-Ok g c =
    let same : c.as_str.result.now ≡ counts_line c.args.image.now = search rules in
    let wrote = c.write_text.ensures in
    written (λ text. text ≡ counts_line c.args.image.now) _ _ c.as_str.result.now _ _ same wrote.status wrote.written wrote.begun wrote.failed
