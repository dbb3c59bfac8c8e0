use Rattle.std.proofs.Common.{string_bytes}
use Rattle.answer_pictures.specs.Pictures.{size_text}
use Rattle.answer_pictures.proofs.Joined.{four}
use Rattle.answer_pictures.proofs.drawing.put_size.Goals as goal

pub returns : goal.returns
unfolding size_text
returns c =
    four (string_bytes c.args.out.now) (string_bytes c.put_text.new.out) (string_bytes c.put_number.new.out)
    (string_bytes c.put_text-2.new.out) (string_bytes c.put_attribute.new.out) _ _ _ _
    c.in_ok-put_text.ensures c.in_ok-put_number.ensures c.in_ok-put_text-2.ensures c.in_ok-put_attribute.ensures
