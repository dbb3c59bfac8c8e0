use Rattle.std.proofs.Common.{◌≡◌, rules}
use Rattle.feed_commands.specs.Building.{report_asked}
use Rattle.command_endings.proofs.Outcomes.{written}
use Rattle.feed_commands.proofs.build.print_counts.Goals as goal

pub returns-in-Ok : goal.returns-in-Ok
returns-in-Ok g c =
    let report = c.args.report.now in
    let same : c.as_str.result.now ≡ report_asked c.args.json report = search rules in
    let wrote = c.write_text.ensures in
    written (λ text. text ≡ report_asked c.args.json report) _ _ c.as_str.result.now _ _ same wrote.status wrote.written wrote.begun wrote.failed
