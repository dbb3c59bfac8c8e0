use Rattle.std.proofs.Common.{string_bytes}
use Rattle.answer_pictures.specs.Pictures.{group_text}
use Rattle.answer_pictures.proofs.Joined.{three}
use Rattle.answer_pictures.proofs.parts.put_group.Goals as goal

pub returns : goal.returns
unfolding group_text
returns c =
    three (string_bytes c.args.out.now) (string_bytes c.put_text.new.out) (string_bytes c.put_number.new.out)
    (string_bytes c.put_text-2.new.out) _ _ _
    c.in_ok-put_text.ensures c.in_ok-put_number.ensures c.in_ok-put_text-2.ensures
