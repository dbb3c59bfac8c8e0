use Rattle.std.proofs.Common.{◌++◌, ◌∙◌, ap, string_bytes}
use Rattle.answer_pictures.specs.Pictures.{heading_text}
use Rattle.answer_pictures.proofs.Joined.{five}
use Rattle.answer_pictures.proofs.drawing.put_heading.Goals as goal

pub returns : goal.returns
unfolding heading_text
returns c =
    five (string_bytes c.args.out.now) (string_bytes c.put_title.new.out) (string_bytes c.put_remark_words.new.out)
    (string_bytes c.put_style.new.out) (string_bytes c.put_shown_title.new.out) (string_bytes c.put_text.new.out) _
    _ _ _ _
    c.in_ok-put_title.ensures
    c.in_ok-put_remark_words.ensures
    c.in_ok-put_style.ensures
    c.in_ok-put_shown_title.ensures
    (c.in_ok-put_text.ensures ∙ ap (λ x. string_bytes c.put_shown_title.new.out ++ x) c.legend.ensures)
