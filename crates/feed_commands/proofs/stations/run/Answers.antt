use Rattle.std.proofs.Common.{◌≡◌, inl, rules, string_bytes, subst, sym}
use Rattle.command_endings.specs.Ending.{PrintsOnly}
use Rattle.feed_commands.specs.Refusing.{PrintsOfFeed}
use Rattle.feed_commands.specs.Stations.{IsStopsRefusal, IsTextOf}
use Rattle.command_endings.proofs.Outcomes.{outcome_of, written}
use Rattle.feed_commands.proofs.Unloaded.{feed_refused}
use Rattle.feed_commands.proofs.stations.run.Goals as goal

pub returns-in-Ok : goal.returns-in-Ok
returns-in-Ok g c =
    let gives = g.H.Disk.gives in
    let request = c.args.request in
    let folder = request.folder.now in
    let same : c.as_str-in-Ok.result.now ≡ string_bytes c.in-Ok.text = search rules in
    let asked = subst (IsTextOf gives folder request) (sym same) c.in-Ok.ensures.text in
    let wrote = c.write_text.ensures in
    outcome_of (PrintsOnly (IsTextOf gives folder request)) (PrintsOfFeed (IsTextOf gives folder request) (IsStopsRefusal gives folder)) _ _ _ _ _ _
    (λ s text is. inl is) (λ none. none)
    (written (IsTextOf gives folder request) _ _ c.as_str-in-Ok.result.now _ _ asked wrote.status wrote.written wrote.begun wrote.failed)

pub returns-in-Err : goal.returns-in-Err
returns-in-Err g c =
    let gives = g.H.Disk.gives in
    let request = c.args.request in
    let folder = request.folder.now in
    let done = c.refuse_feed.ensures in
    feed_refused (IsTextOf gives folder request) (IsStopsRefusal gives folder) c.in-Err.fault _ _ _ _ c.in-Err.ensures.refused
    done.status done.memory done.refused done.printed done.silent done.begun done.failed
