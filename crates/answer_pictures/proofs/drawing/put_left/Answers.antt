use Rattle.std.proofs.Common.{string_bytes}
use Rattle.answer_pictures.proofs.Joined.{two}
use Rattle.answer_pictures.proofs.drawing.put_left.Goals as goal

pub returns : goal.returns
returns c =
    two (string_bytes c.args.out.now) (string_bytes c.put_text.new.out) (string_bytes c.put_number.new.out) _ _
    c.in_ok-put_text.ensures c.in_ok-put_number.ensures
