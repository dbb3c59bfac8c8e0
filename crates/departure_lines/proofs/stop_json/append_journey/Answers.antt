use Rattle.std.proofs.Common.{◌++◌, ◌∙◌, ap, string_bytes}
use Rattle.criteria.specs.declared.figures.Figures.{Figures}
use Rattle.departure_lines.specs.Json.{counts_json, journey_json, journey_member, times_json}
use Rattle.text_pieces.proofs.Joined.{three}
use Rattle.departure_lines.proofs.stop_json.append_journey.Goals as goal

pub returns : goal.returns
unfolding journey_json
returns g c =
    three (string_bytes c.args.lines.now) (string_bytes c.append_times.new.lines) (string_bytes c.append_member.new.lines)
    (string_bytes c.append_counts.new.lines) _ _ _
    (c.in_ok-append_times.ensures
    ∙ ap (λ (figures : Figures). string_bytes c.args.lines.now ++ times_json c.args.departure.now.time figures.arrival) c.figures_of-figures.ensures)
    (c.in_ok-append_member.ensures ∙ ap (λ text. string_bytes c.append_times.new.lines ++ journey_member text)
    (c.as_str.ensures.value ∙ c.in_ok-journey.ensures))
    (c.in_ok-append_counts.ensures ∙ ap (λ figures. string_bytes c.append_member.new.lines ++ counts_json figures) c.figures_of-figures.ensures)
