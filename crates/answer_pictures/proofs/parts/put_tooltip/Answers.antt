use Rattle.std.proofs.Common.{◌≡◌, ◌∙◌, ap, string_bytes}
use Rattle.answer_pictures.specs.LineValue.{StretchValue}
use Rattle.answer_pictures.specs.Pictures.{tooltip_text}
use Rattle.answer_pictures.proofs.Joined.{three}
use Rattle.answer_pictures.proofs.parts.put_tooltip.Goals as goal

pub returns : goal.returns
unfolding tooltip_text
returns c =
    let from : c.deref.result.now ≡ c.args.stretch.now.from = c.deref.ensures ∙ ap (λ (v : StretchValue). v.from) c.stretch.view_is in
    let start : c.stretch.inside.start ≡ c.args.stretch.now.start = ap (λ (v : StretchValue). v.start) c.stretch.view_is in
    let to : c.deref-2.result.now ≡ c.args.stretch.now.to = c.deref-2.ensures ∙ ap (λ (v : StretchValue). v.to) c.stretch.view_is in
    let end : c.stretch.inside.end ≡ c.args.stretch.now.end = ap (λ (v : StretchValue). v.end) c.stretch.view_is in
    three (string_bytes c.args.out.now) (string_bytes c.put_lead.new.out) (string_bytes c.put_end_at.new.out) (string_bytes c.put_end_at-2.new.out) _ _ _
    c.in_ok-put_lead.ensures
    (rw (from, start) at c.in_ok-put_end_at.ensures)
    (rw (to, end) at c.in_ok-put_end_at-2.ensures)
