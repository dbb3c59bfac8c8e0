use Rattle.std.proofs.Common.{string_bytes}
use Rattle.answer_pictures.specs.Pictures.{line_text}
use Rattle.answer_pictures.proofs.Joined.{five}
use Rattle.answer_pictures.proofs.parts.put_line.Goals as goal

pub returns : goal.returns
unfolding line_text
returns c =
    five (string_bytes c.args.out.now) (string_bytes c.put_group.new.out) (string_bytes c.put_label.new.out)
    (string_bytes c.put_wait.new.out) (string_bytes c.put_parts.new.out) (string_bytes c.put_line_note.new.out) _ _ _ _ _
    c.in_ok-put_group.ensures c.in_ok-put_label.ensures c.in_ok-put_wait.ensures c.in_ok-put_parts.ensures c.in_ok-put_line_note.ensures
