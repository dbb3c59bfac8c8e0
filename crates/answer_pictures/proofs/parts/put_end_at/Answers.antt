use Rattle.std.proofs.Common.{string_bytes}
use Rattle.answer_pictures.specs.Pictures.{end_at}
use Rattle.answer_pictures.proofs.Joined.{two}
use Rattle.answer_pictures.proofs.parts.put_end_at.Goals as goal

pub returns : goal.returns
unfolding end_at
returns c =
    two (string_bytes c.args.out.now) (string_bytes c.put_element.new.out) (string_bytes c.put_moment.new.out) _ _
    c.in_ok-put_element.ensures
    c.in_ok-put_moment.ensures
