use Rattle.std.proofs.Common.{string_bytes}
use Rattle.profile_scan.specs.Everywhere.{asked_to_any}
use Rattle.image_files.specs.Naming.{printed}
use Rattle.departure_lines.specs.Showing.{AddsStops}
use Rattle.departure_lines.proofs.stop_lines.append_stops.Given as goal

abbrev pub invariant-loop-stop : goal.invariant-loop-stop
invariant-loop-stop g l =
    AddsStops g.C.ShowsFigures.figures (g.C.Criterion.rules l.shown.criterion.now) l.form (printed l.shown.names l.shown.image.now)
    (asked_to_any l.shown.profiles.now) l.wanted l.stop
    (string_bytes l.fn.lines) (string_bytes l.lines) l.counts
