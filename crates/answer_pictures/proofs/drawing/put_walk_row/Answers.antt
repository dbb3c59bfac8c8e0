use Rattle.std.proofs.Common.{string_bytes}
use Rattle.answer_pictures.specs.Pictures.{walk_row}
use Rattle.answer_pictures.proofs.Joined.{five}
use Rattle.answer_pictures.proofs.drawing.put_walk_row.Goals as goal

pub returns : goal.returns
unfolding walk_row
returns c =
    five (string_bytes c.args.out.now) (string_bytes c.put_group.new.out) (string_bytes c.put_text.new.out)
    (string_bytes c.put_number.new.out) (string_bytes c.put_text-2.new.out)
    (string_bytes c.put_seconds_on_foot.new.out) _ _ _ _ _
    c.in_ok-put_group.ensures
    c.in_ok-put_text.ensures
    (rw (c.length.ensures, c.saturating_add.ensures) at c.in_ok-put_number.ensures)
    c.in_ok-put_text-2.ensures
    c.in_ok-put_seconds_on_foot.ensures
