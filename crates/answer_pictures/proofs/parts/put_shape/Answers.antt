use Rattle.std.proofs.Common.{◌≡◌, ◌++◌, subst, string_bytes}
use Rattle.std.specs.Prelude.{OnOk}
use Rattle.answer_pictures.specs.LineValue.{StretchValue}
use Rattle.answer_pictures.specs.Pictures.{shape_text}
use Rattle.answer_pictures.proofs.parts.put_shape.Goals as goal

pub returns : goal.returns
unfolding shape_text
returns c =
    subst (λ (s : StretchValue). OnOk c.put_numbers.result (string_bytes c.put_numbers.new.out ≡ string_bytes c.args.out.now ++ shape_text c.args.axis s))
    c.stretch.view_is
    (rw (c.way_text.ensures, c.x_at.ensures, c.between_text.ensures, c.length.ensures) at c.put_numbers.ensures)
