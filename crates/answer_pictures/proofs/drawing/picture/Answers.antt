use Rattle.std.proofs.Common.{string_bytes}
use Rattle.answer_pictures.proofs.Drawn.{is_picture}
use Rattle.answer_pictures.proofs.drawing.picture.Goals as goal

-- each part was added behind those before it
pub returns : goal.returns
returns c =
    is_picture c.args.heading.now c.args.axis c.args.walk c.args.lines.now c.args.left c.shows_seconds-exact.result
    (string_bytes c.new-out.result) (string_bytes c.put_beginning.new.out) (string_bytes c.put_axis.new.out) (string_bytes c.put_walk.new.out)
    (string_bytes c.put_lines.new.out) (string_bytes c.put_ending.new.out)
    _ _ _ _ _ _ c.shows_seconds-exact.ensures
    c.new-out.ensures.bytes c.in_ok-put_beginning.ensures c.in_ok-put_axis.ensures c.in_ok-put_walk.ensures c.in_ok-put_lines.ensures
    c.in_ok-put_ending.ensures
