use Rattle.std.proofs.Common.{string_bytes}
use Rattle.answer_pictures.specs.Pictures.{scale_text}
use Rattle.answer_pictures.proofs.Joined.{three}
use Rattle.answer_pictures.proofs.drawing.put_scale.Goals as goal

pub returns : goal.returns
unfolding scale_text
returns c =
    three (string_bytes c.args.out.now) (string_bytes c.put_group.new.out) (string_bytes c.put_ticks.new.out)
    (string_bytes c.put_text.new.out) _ _ _
    c.in_ok-put_group.ensures c.in_ok-put_ticks.ensures c.in_ok-put_text.ensures
