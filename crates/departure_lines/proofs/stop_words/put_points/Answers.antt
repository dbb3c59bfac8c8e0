use Rattle.std.proofs.Common.{◌≡◌, map, refl, rules}
use Rattle.std.specs.List.{flat_map}
use Rattle.std.proofs.lemmas.Result.{on_ok_weaker}
use Rattle.text_pieces.specs.declared.form.Form.{Form}
use Rattle.departure_lines.specs.Json.{json_if_some, point_json}
use Rattle.departure_lines.specs.Lines.{ArePoints, point_line, summary_text}
use Rattle.departure_lines.specs.declared.stop_words.PointsForm.{PointsForm}
use Rattle.departure_lines.proofs.stop_words.put_points.Goals as goal

pub returns-in-Each-Lines : goal.returns-in-Each-Lines
returns-in-Each-Lines g c =
    let figures = g.C.ShowsFigures.figures in
    let text = flat_map (point_line figures c.args.name.now) c.args.points.now in
    let asks : c.args.form ≡ PointsForm.Each Form.Lines = search rules in
    let are : ArePoints figures c.args.form c.args.name.now c.args.points.now c.args.walk text = rw asks refl in
    on_ok_weaker c.append_points.result (λ added. (text, added, are)) c.append_points.ensures

pub returns-in-Each-Json : goal.returns-in-Each-Json
returns-in-Each-Json g c =
    let figures = g.C.ShowsFigures.figures in
    let text = json_if_some c.args.name.now (map (point_json figures) c.args.points.now) c.args.walk in
    let asks : c.args.form ≡ PointsForm.Each Form.Json = search rules in
    let are : ArePoints figures c.args.form c.args.name.now c.args.points.now c.args.walk text = rw asks refl in
    on_ok_weaker c.append_json_points.result (λ added. (text, added, are)) c.append_json_points.ensures

pub returns-in-Summary : goal.returns-in-Summary
returns-in-Summary g c =
    let summary = c.summary_of-summary.result in
    let text = summary_text c.in-Summary.form c.args.name.now summary in
    let asks : c.args.form ≡ PointsForm.Summary c.in-Summary.form = search rules in
    let are : ArePoints g.C.ShowsFigures.figures c.args.form c.args.name.now c.args.points.now c.args.walk text =
    rw asks (summary, c.summary_of-summary.ensures, refl) in
    on_ok_weaker c.append_summary.result (λ added. (text, added, are)) c.append_summary.ensures
