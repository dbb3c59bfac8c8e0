use Rattle.std.proofs.Common.{◌-◌, take, length, ap, refl, ◌∙◌}
use Rattle.image_commands.proofs.Picturing.{picture_made}
use Rattle.image_commands.proofs.pictured.picture_text.Goals as goal

pub returns : goal.returns
returns g c =
    picture_made _ _ _ _ _ c.args.answer.now.departures.items _ _ _ c.in_ok-heading.heading _ _ c.in_ok-lines.lines.items _ _ _
    c.in_ok-heading.ensures (c.first_of-drawn.ensures
    ∙ ap (λ ds. take c.args.request.now.rows.number ds) c.deref.ensures.value) c.deref-2.ensures.value
    c.deref-4.ensures.value
    refl c.in_ok-lines.ensures c.of_lines-axis.ensures (c.left_of-left.ensures ∙ ap (λ ds. length ds - c.args.request.now.rows.number) c.deref-3.ensures.value)
    c.in_ok-text.ensures
