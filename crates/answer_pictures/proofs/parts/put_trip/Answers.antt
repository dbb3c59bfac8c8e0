use Rattle.std.proofs.Common.{◌≡◌, ◌∙◌, ap, string_bytes}
use Rattle.answer_pictures.specs.LineValue.{StretchValue}
use Rattle.answer_pictures.specs.Pictures.{trip_text}
use Rattle.answer_pictures.proofs.Joined.{three}
use Rattle.answer_pictures.proofs.parts.put_trip.Goals as goal

pub returns : goal.returns
unfolding trip_text
returns c =
    let start : c.stretch.inside.start ≡ c.args.stretch.now.start = ap (λ (v : StretchValue). v.start) c.stretch.view_is in
    let trip : c.deref.result.now ≡ c.args.stretch.now.trip = c.deref.ensures ∙ ap (λ (v : StretchValue). v.trip) c.stretch.view_is in
    three (string_bytes c.args.out.now) (string_bytes c.put_text.new.out) (string_bytes c.put_attribute.new.out) (string_bytes c.put_element.new.out) _ _ _
    c.in_ok-put_text.ensures
    (rw (c.x_at.ensures, start) at c.in_ok-put_attribute.ensures)
    (rw trip at c.in_ok-put_element.ensures)
