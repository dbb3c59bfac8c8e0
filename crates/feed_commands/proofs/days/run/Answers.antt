use Rattle.std.proofs.Common.{inl}
use Rattle.command_endings.specs.Ending.{PrintsOnly}
use Rattle.feed_commands.specs.Folders.{AreDaysOf, IsDays, IsTablesRefusalOf}
use Rattle.feed_commands.specs.Refusing.{PrintsOfFeed}
use Rattle.command_endings.proofs.Outcomes.{outcome_of}
use Rattle.feed_commands.proofs.Unloaded.{feed_refused}
use Rattle.feed_commands.proofs.days.run.Goals as goal

pub returns-in-Ok : goal.returns-in-Ok
returns-in-Ok g c =
    let gives = g.H.Disk.gives in
    let folder = c.args.request.folder.now in
    let json = c.args.request.json in
    let feed = c.in-Ok.feed in
    outcome_of (PrintsOnly (IsDays json feed)) (PrintsOfFeed (AreDaysOf gives folder json) (IsTablesRefusalOf gives folder)) _ _ _ _ _ _
    (λ s text is. inl (is.0, (feed, c.in-Ok.ensures.feed, is.1))) (λ none. absurd none) c.print_days.ensures

pub returns-in-Err : goal.returns-in-Err
returns-in-Err g c =
    let gives = g.H.Disk.gives in
    let folder = c.args.request.folder.now in
    let json = c.args.request.json in
    let done = c.refuse_feed.ensures in
    feed_refused (AreDaysOf gives folder json) (IsTablesRefusalOf gives folder) c.in-Err.fault _ _ _ _ c.in-Err.ensures.refused
    done.status done.memory done.refused done.printed done.silent done.begun done.failed
