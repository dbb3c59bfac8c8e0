use Rattle.std.proofs.Common.{◌≡◌, rules}
use Rattle.feed_commands.specs.Tabling.{counts_asked}
use Rattle.command_endings.proofs.Outcomes.{written}
use Rattle.feed_commands.proofs.tables.print_counts.Goals as goal

pub returns-in-Ok : goal.returns-in-Ok
returns-in-Ok g c =
    let same : c.as_str.result.now ≡ counts_asked c.args.json c.args.counts = search rules in
    let wrote = c.write_text.ensures in
    written (λ text. text ≡ counts_asked c.args.json c.args.counts) _ _ c.as_str.result.now _ _ same wrote.status wrote.written wrote.begun wrote.failed
