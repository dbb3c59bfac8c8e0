-- The fault that is printed is the one for which the feed isn't built.
use Rattle.std.proofs.Common.{◌≡◌, ◌≢◌, inl, inr, refl, subst, sym}
use Rattle.std.specs.declared.io.ErrorKind.{ErrorKind}
use Rattle.std.specs.declared.io.ErrorKind.TheVariants.{OutOfMemory as WasOutOfMemory}
use Rattle.feed_loader.specs.Refused.{IsWantOfMemory}
use Rattle.feed_loader.specs.declared.fault.LoadFault.{LoadFault}
use Rattle.feed_commands.specs.Building.{IfRefused, IfUnusable, IsReport, IsUnusable, report_asked}
use Rattle.command_endings.specs.Ending.{PrintsOnly}
use Rattle.feed_commands.specs.Folders.{IsBuildRefusal}
use Rattle.feed_commands.specs.Refusing.{PrintsOfFeed}
use Rattle.feed_commands.specs.declared.build.BuildFailure.{BuildFailure}
use Rattle.command_endings.proofs.Outcomes.{outcome_of, unusable}
use Rattle.feed_commands.proofs.Unloaded.{feed_refused}
use Rattle.feed_commands.proofs.build.run.Goals as goal

pub returns-after-warnings : goal.returns-after-warnings
returns-after-warnings g c =
    let gives = g.H.Disk.gives in
    let may_hold = g.H.ImageDisk.may_hold c.args.rt.now in
    let may_show = g.H.WallClock.may_show c.args.rt.now in
    let disk = g.H.OutDisk.files c.args.rt.now in
    let request = c.args.request in
    let built = c.in-Ok.built in
    let done = c.in-Ok.ensures in
    outcome_of (PrintsOnly (λ text. text ≡ report_asked request.json built.report))
    (PrintsOfFeed (IsReport gives may_hold may_show disk request) (IsBuildRefusal gives request.folder.now may_hold may_show request.plan)) _ _ _ _ _ _
    (λ s text is. inl (is.0, (built.image.timetable, built.image.names, built.report, done.built, done.put, is.1))) (λ none. absurd none) c.print_counts.ensures

pub returns-in-Err-Refused : goal.returns-in-Err-Refused
returns-in-Err-Refused g c =
    let gives = g.H.Disk.gives in
    let may_hold = g.H.ImageDisk.may_hold c.args.rt.now in
    let may_show = g.H.WallClock.may_show c.args.rt.now in
    let request = c.args.request in
    let figures = c.in-Err-Refused in
    let unbuilt = subst (λ (failure : BuildFailure). IfRefused failure (IsBuildRefusal gives request.folder.now may_hold may_show request.plan))
    figures.field-0-is figures.ensures.refused in
    let passed = subst (λ (fault : LoadFault). ¬ (IsWantOfMemory fault) → IsBuildRefusal gives request.folder.now may_hold may_show request.plan fault)
    (sym figures.fault-is) unbuilt in
    let done = c.refuse_feed.ensures in
    let disk = g.H.OutDisk.files c.args.rt.now in
    outcome_of _ _ _ _ _ _ _ _ (λ s text is. is) (λ none. absurd none)
    (feed_refused (IsReport gives may_hold may_show disk request) (IsBuildRefusal gives request.folder.now may_hold may_show request.plan)
    _ _ _ _ _ passed done.status done.memory done.refused done.printed done.silent done.begun done.failed)

pub returns-in-Err-Unreadable : goal.returns-in-Err-Unreadable
returns-in-Err-Unreadable g c =
    let Unusable = IsUnusable g.H.Disk.gives (g.H.ImageDisk.may_hold c.args.rt.now) (g.H.ImageDisk.may_fail c.args.rt.now)
    (g.H.WallClock.may_show c.args.rt.now) (g.H.OutDisk.files c.args.rt.now) c.args.request in
    let figures = c.in-Err-Unreadable in
    let can = subst (λ (failure : BuildFailure). IfUnusable failure Unusable) figures.field-0-is figures.ensures.unusable in
    inr (inr (inl (c.report_unread_zone.ensures, can), refl))

pub returns-in-Err-Unwritten : goal.returns-in-Err-Unwritten
returns-in-Err-Unwritten g c =
    let Unusable = IsUnusable g.H.Disk.gives (g.H.ImageDisk.may_hold c.args.rt.now) (g.H.ImageDisk.may_fail c.args.rt.now)
    (g.H.WallClock.may_show c.args.rt.now) (g.H.OutDisk.files c.args.rt.now) c.args.request in
    let figures = c.in-Err-Unwritten in
    let can = subst (λ (failure : BuildFailure). IfUnusable failure Unusable) figures.field-0-is figures.ensures.unusable in
    let done = c.report_unwritten.ensures in
    unusable _ _ _ _ c.report_unwritten.result _ done.memory done.either
    (subst (λ (kind : ErrorKind). kind ≢ WasOutOfMemory → Unusable) (sym figures.kind-is) can)
