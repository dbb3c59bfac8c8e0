use Rattle.std.proofs.Common.{◌≡◌, inl}
use Rattle.command_endings.specs.Ending.{PrintsOnly}
use Rattle.feed_commands.specs.Folders.{IsTablesRefusalOf}
use Rattle.feed_commands.specs.Refusing.{PrintsOfFeed}
use Rattle.feed_commands.specs.Tabling.{IsCounts, counts_asked}
use Rattle.command_endings.proofs.Outcomes.{outcome_of}
use Rattle.feed_commands.proofs.Unloaded.{feed_refused}
use Rattle.feed_commands.proofs.tables.run.Goals as goal

pub returns-in-Ok-clause-printed : goal.returns-in-Ok-clause-printed
returns-in-Ok-clause-printed g c =
    let gives = g.H.Disk.gives in
    let request = c.args.request in
    let folder = request.folder.now in
    let counts = c.in-Ok.counts in
    outcome_of (PrintsOnly (λ text. text ≡ counts_asked request.json counts))
    (PrintsOfFeed (IsCounts gives request) (IsTablesRefusalOf gives folder)) _ _ _ _ _ _
    (λ s text is. inl (is.0, (counts, c.in-Ok.ensures.counts, is.1))) (λ none. absurd none) c.print_counts.ensures

pub returns-in-Err-clause-printed : goal.returns-in-Err-clause-printed
returns-in-Err-clause-printed g c =
    let gives = g.H.Disk.gives in
    let request = c.args.request in
    let folder = request.folder.now in
    let done = c.refuse_feed.ensures in
    feed_refused (IsCounts gives request) (IsTablesRefusalOf gives folder) c.in-Err.fault _ _ _ _ c.in-Err.ensures.refused
    done.status done.memory done.refused done.printed done.silent done.begun done.failed
