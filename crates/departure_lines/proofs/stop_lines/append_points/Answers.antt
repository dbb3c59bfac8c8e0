use Rattle.std.proofs.Common.{◌∙◌, List, ℕ, Option, refl, subst, string_bytes}
use Rattle.image_facts.specs.Naming.{stop_bytes}
use Rattle.image_files.specs.Naming.{printed}
use Rattle.departure_lines.specs.Lines.{ArePoints}
use Rattle.departure_lines.proofs.Stops.{points_in_form, points_shown}
use Rattle.departure_lines.proofs.stop_lines.append_points.Goals as goal

pub returns : goal.returns
returns g c =
    let shown = c.args.shown.now in
    let form = c.args.form in
    let image = printed shown.names shown.image.now in
    let points = c.points-points.result.now in
    let put = c.in_ok-put_points.ensures in
    let named = subst (λ (called : List ℕ). ArePoints g.C.ShowsFigures.figures form called points c.direct_secs-walk.result put.0)
    (c.as_str.ensures.value ∙ c.in_ok-name.ensures) put.2 in
    let are = subst (λ (walk : Option ℕ). ArePoints g.C.ShowsFigures.figures form (stop_bytes image.names c.args.stop) points walk put.0)
    c.direct_secs-walk.ensures named in
    points_shown g.C.Criterion.rules g.C.ShowsFigures.figures _ image shown.profiles.now shown.criterion.now c.args.stop points put.0
    (string_bytes c.args.lines.now) (string_bytes c.put_points.new.lines)
    c.requires.stop c.requires.differ c.requires.same c.requires.answered c.points-points.ensures
    (points_in_form g.C.ShowsFigures.figures _ form image _ c.args.stop points _ put.0 are) put.1
