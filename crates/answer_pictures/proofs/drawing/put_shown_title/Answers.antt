use Rattle.std.proofs.Common.{◌≡◌, ◌∙◌, ap, string_bytes}
use Rattle.answer_pictures.specs.LineValue.{HeadingValue}
use Rattle.answer_pictures.specs.Pictures.{shown_title}
use Rattle.answer_pictures.proofs.Joined.{three}
use Rattle.answer_pictures.proofs.drawing.put_shown_title.Goals as goal

pub returns : goal.returns
unfolding shown_title
returns c =
    let from : c.deref.result.now ≡ c.args.heading.now.from = c.deref.ensures ∙ ap (λ (v : HeadingValue). v.from) c.heading.view_is in
    let to : c.deref-2.result.now ≡ c.args.heading.now.to = c.deref-2.ensures ∙ ap (λ (v : HeadingValue). v.to) c.heading.view_is in
    let about : c.deref-3.result.now ≡ c.args.heading.now.about = c.deref-3.ensures ∙ ap (λ (v : HeadingValue). v.about) c.heading.view_is in
    three (string_bytes c.args.out.now) (string_bytes c.put_short.new.out) (string_bytes c.put_short-2.new.out) (string_bytes c.put_element.new.out) _ _ _
    (rw from at c.in_ok-put_short.ensures)
    (rw to at c.in_ok-put_short-2.ensures)
    (rw about at c.in_ok-put_element.ensures)
