use Rattle.std.proofs.Common.{◌≡◌, ap, string_bytes}
use Rattle.answer_pictures.specs.LineValue.{StretchValue}
use Rattle.answer_pictures.specs.Pictures.{stretch_text}
use Rattle.answer_pictures.proofs.Joined.{four}
use Rattle.answer_pictures.proofs.parts.put_stretch.Goals as goal

pub returns : goal.returns
unfolding stretch_text
returns c =
    let way : c.stretch.inside.way ≡ c.args.stretch.now.way = ap (λ (v : StretchValue). v.way) c.stretch.view_is in
    four (string_bytes c.args.out.now) (string_bytes c.put_shape.new.out) (string_bytes c.put_tooltip.new.out)
    (string_bytes c.put_end.new.out) (string_bytes c.put_badge.new.out) _ _ _ _
    c.in_ok-put_shape.ensures
    c.in_ok-put_tooltip.ensures
    (rw way at c.in_ok-put_end.ensures)
    c.in_ok-put_badge.ensures
