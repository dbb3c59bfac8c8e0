use Rattle.std.proofs.Common.{string_bytes}
use Rattle.profile_scan.specs.Everywhere.{asked_to_any}
use Rattle.image_files.specs.Naming.{printed}
use Rattle.departure_lines.proofs.Stops.{none_added}
use Rattle.departure_lines.proofs.stop_lines.append_stops.Goals as goal

pub loop-stop-init : goal.loop-stop-init
loop-stop-init g c =
    let shown = c.args.shown.now in
    let image = printed shown.names shown.image.now in
    none_added g.C.ShowsFigures.figures (g.C.Criterion.rules shown.criterion.now) c.args.form image
    (asked_to_any shown.profiles.now) c.args.wanted.now
    (string_bytes c.args.lines.now)

pub loop-stop-preserved : goal.loop-stop-preserved
loop-stop-preserved g c = c.in_ok-counts.ensures (string_bytes c.args.lines.now) c.loop-stop.invariant
