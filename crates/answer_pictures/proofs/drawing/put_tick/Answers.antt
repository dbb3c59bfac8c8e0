use Rattle.std.proofs.Common.{string_bytes}
use Rattle.answer_pictures.specs.Pictures.{tick_text}
use Rattle.answer_pictures.proofs.Joined.{five}
use Rattle.answer_pictures.proofs.drawing.put_tick.Goals as goal

pub returns : goal.returns
unfolding tick_text
returns c =
    five (string_bytes c.args.out.now) (string_bytes c.put_text.new.out) (string_bytes c.put_attribute.new.out)
    (string_bytes c.put_text-2.new.out) (string_bytes c.put_moment.new.out) (string_bytes c.put_text-3.new.out) _ _
    _ _ _
    c.in_ok-put_text.ensures
    (rw c.x_at.ensures at c.in_ok-put_attribute.ensures)
    c.in_ok-put_text-2.ensures
    c.in_ok-put_moment.ensures
    c.in_ok-put_text-3.ensures
