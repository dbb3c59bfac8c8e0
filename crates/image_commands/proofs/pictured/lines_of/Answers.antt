use Rattle.image_commands.specs.Picturing.{IsDrawnAs}
use Rattle.image_commands.proofs.Picturing.{drawn_more}
use Rattle.image_commands.proofs.pictured.lines_of.Goals as goal

pub loop-departure-preserved : goal.loop-departure-preserved
loop-departure-preserved g c =
    drawn_more (IsDrawnAs g.C.ShowsFigures.figures c.args.image.now) c.args.departures.now c.loop-departure.departure-index c.departure-item.result
    c.loop-departure.lines.items _ _ c.loop-departure-test.true c.departure-item.is c.loop-departure.invariant c.in_ok-line.ensures
    c.in_ok-push.ensures.items
