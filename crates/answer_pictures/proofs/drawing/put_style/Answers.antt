use Rattle.std.proofs.Common.{◌++◌, ◌∙◌, ap, string_bytes}
use Rattle.answer_pictures.proofs.Joined.{three}
use Rattle.answer_pictures.proofs.drawing.put_style.Goals as goal

pub returns : goal.returns
returns c =
    three (string_bytes c.args.out.now) (string_bytes c.put_text.new.out) (string_bytes c.put_text-2.new.out) (string_bytes c.put_text-3.new.out) _ _ _
    c.in_ok-put_text.ensures
    (c.in_ok-put_text-2.ensures ∙ ap (λ x. string_bytes c.put_text.new.out ++ x) c.style.ensures)
    c.in_ok-put_text-3.ensures
