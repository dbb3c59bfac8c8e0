use Rattle.std.proofs.Common.{rules}
use Rattle.feed_commands.specs.Folders.{IsDays}
use Rattle.command_endings.proofs.Outcomes.{written}
use Rattle.feed_commands.proofs.days.print_days.Goals as goal

pub returns-in-Ok : goal.returns-in-Ok
returns-in-Ok g c =
    let feed = c.args.feed.now in
    let json = c.args.json in
    let days : IsDays json feed c.as_str.result.now = search rules in
    let wrote = c.write_text.ensures in
    written (IsDays json feed) _ _ c.as_str.result.now _ _ days wrote.status wrote.written wrote.begun wrote.failed
