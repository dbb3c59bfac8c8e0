use Rattle.std.proofs.Common.{◌++◌, ◌∙◌, ap, string_bytes}
use Rattle.criteria.specs.declared.figures.Figures.{Figures}
use Rattle.departure_lines.specs.Json.{counts_json, point_json, times_json}
use Rattle.text_pieces.proofs.Joined.{two}
use Rattle.departure_lines.proofs.stop_json.append_point.Goals as goal

pub returns : goal.returns
unfolding point_json
returns g c =
    two (string_bytes c.args.lines.now) (string_bytes c.append_times.new.lines) (string_bytes c.append_counts.new.lines) _ _
    (c.in_ok-append_times.ensures
    ∙ ap (λ (figures : Figures). string_bytes c.args.lines.now ++ times_json c.args.point.now.departure figures.arrival) c.figures_of-figures.ensures)
    (c.in_ok-append_counts.ensures ∙ ap (λ figures. string_bytes c.append_times.new.lines ++ counts_json figures) c.figures_of-figures.ensures)
