use Rattle.std.proofs.Common.{string_bytes}
use Rattle.answer_pictures.proofs.Drawn.{one_more}
use Rattle.answer_pictures.proofs.drawing.put_lines.Goals as goal

pub loop-line-preserved : goal.loop-line-preserved
loop-line-preserved c =
    one_more c.args.axis c.args.exact c.args.lines.now c.loop-line.line-index c.line-item.result c.height_of.result
    (string_bytes c.args.out.now) (string_bytes c.loop-line.out) (string_bytes c.put_line.new.out)
    c.loop-line-test.true c.line-item.is c.loop-line.invariant c.in_ok-put_line.ensures
