-- The image is that of the folder's files, and the fault is their first one.
use Rattle.std.proofs.Common.{◌≡◌, [], None, inl, inr, rules}
use Rattle.std.proofs.lemmas.Result.{IfErr-weaker, IfOk-weaker}
use Rattle.feed_commands.proofs.OfFolder.{build_refused, built_of, unusable_weaker, zone_unreadable}
use Rattle.feed_commands.proofs.build.build.Goals as goal

pub returns-clause-built : goal.returns-clause-built
returns-clause-built g c =
    let began = c.new-files.result.files in
    let then = c.build_reported-built.new.files.files in
    let asked = c.args.request.now in
    let same : began.folder.now ≡ asked.folder.now = search rules in
    IfOk-weaker c.build_reported-built.result _ _ (λ built is.
    built_of g.H.Disk.gives then.disk.now then.state asked.folder.now began.folder.now then.folder.now began.reads then.reads
    (g.H.ImageDisk.may_hold c.args.rt.now) (g.H.WallClock.may_show c.args.rt.now) asked.plan c.in-Ok.plan built.image.timetable built.image.names built.report
    same c.in-Ok.ensures.plan then.given is) c.build_reported-built.ensures.built

pub returns-clause-refused : goal.returns-clause-refused
returns-clause-refused g c =
    let began = c.new-files.result.files in
    let then = c.build_reported-built.new.files.files in
    let asked = c.args.request.now in
    let same : began.folder.now ≡ asked.folder.now = search rules in
    let unread : began.reads ≡ [] = search rules in
    let whole : began.failed ≡ [] = search rules in
    build_refused g.H.Disk.gives then.disk.now then.state asked.folder.now began.folder.now then.folder.now began.reads then.reads
    (λ name. None) (g.H.ImageDisk.may_hold c.args.rt.now) (g.H.WallClock.may_show c.args.rt.now) c.build_reported-built.result
    asked.plan c.in-Ok.plan began.failed then.failed
    same unread whole c.in-Ok.ensures.plan then.given then.unread
    c.build_reported-built.ensures.refused

pub returns-clause-unusable : goal.returns-clause-unusable
returns-clause-unusable g c =
    let began = c.new-files.result.files in
    let then = c.build_reported-built.new.files.files in
    let asked = c.args.request.now in
    let same : began.folder.now ≡ asked.folder.now = search rules in
    IfErr-weaker c.build_reported-built.result _ _ (λ failure is. unusable_weaker failure _ _ (λ (unwritable, (t, names, report, content, read, loaded)).
    inr (
      unwritable,
      (
        t,
        names,
        report,
        built_of g.H.Disk.gives then.disk.now then.state asked.folder.now began.folder.now then.folder.now began.reads then.reads
            (g.H.ImageDisk.may_hold c.args.rt.now) (g.H.WallClock.may_show c.args.rt.now) asked.plan c.in-Ok.plan t names report
            same c.in-Ok.ensures.plan then.given (content, read, loaded),
      ),
    )) is) c.build_reported-built.ensures.unusable
