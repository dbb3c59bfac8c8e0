use Rattle.std.proofs.Common.{string_bytes}
use Rattle.answer_pictures.specs.Pictures.{axis_text}
use Rattle.answer_pictures.proofs.Joined.{two}
use Rattle.answer_pictures.proofs.drawing.put_axis.Goals as goal

pub returns : goal.returns
unfolding axis_text
returns c =
    two (string_bytes c.args.out.now) (string_bytes c.put_grids.new.out) (string_bytes c.put_scales.new.out) _ _
    c.in_ok-put_grids.ensures c.in_ok-put_scales.ensures
