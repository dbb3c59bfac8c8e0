use Rattle.std.proofs.Common.{ℕ, List, ◌∙◌, ap, sym, string_bytes}
use Rattle.profile_scan.specs.Everywhere.{asked_to_any}
use Rattle.image_files.specs.Naming.{printed}
use Rattle.departure_lines.specs.Showing.{is_shown}
use Rattle.departure_lines.proofs.Stops.{stop_added, stop_skipped}
use Rattle.departure_lines.proofs.stop_lines.append_next.Goals as goal

pub returns-then-not-is_shown : goal.returns-then-not-is_shown
returns-then-not-is_shown g c before adds =
    let shown = c.args.shown.now in
    let image = printed shown.names shown.image.now in
    stop_skipped g.C.ShowsFigures.figures (g.C.Criterion.rules shown.criterion.now) c.args.form image
    (asked_to_any shown.profiles.now) c.args.wanted.now
    c.args.stop before (string_bytes c.args.lines.now) c.args.counts
    (ap (λ (targets : List ℕ). is_shown c.args.wanted.now targets c.args.stop) (sym c.targets.ensures)
    ∙ sym c.is_shown.ensures.shown ∙ c.if-not-is_shown.true) adds

pub returns : goal.returns
returns g c before adds =
    let shown = c.args.shown.now in
    let image = printed shown.names shown.image.now in
    stop_added g.C.ShowsFigures.figures (g.C.Criterion.rules shown.criterion.now) c.args.form image
    (asked_to_any shown.profiles.now) c.args.wanted.now
    c.args.stop before (string_bytes c.args.lines.now) (string_bytes c.append_stop.new.lines) c.args.counts c.in_ok-next.next c.in_ok-points.points
    (ap (λ (targets : List ℕ). is_shown c.args.wanted.now targets c.args.stop) (sym c.targets.ensures)
    ∙ sym c.is_shown.ensures.shown ∙ c.if-not-is_shown.false) adds c.in_ok-points.ensures c.in_ok-next.ensures.0 c.in_ok-next.ensures.1
