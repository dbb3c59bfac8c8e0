use Rattle.std.proofs.Common.{◌∙◌, ap, min, arith}
use Rattle.departure_lines.specs.Lines.{travel}
use Rattle.departure_lines.proofs.Least.{is_one, min_reached, none_less_all, none_less_more}
use Rattle.departure_lines.proofs.stop_words.least_travel.Goals as goal

pub loop-point-preserved : goal.loop-point-preserved
loop-point-preserved g c =
    let f = travel g.C.ShowsFigures.figures in
    let points = c.args.points.now in
    let point = c.point-item.result in
    let lesser = c.min-least.ensures ∙ ap (min c.loop-point.least) c.seconds_of.ensures in
    record {
      reached = min_reached f points c.loop-point.least (f point) c.min-least.result lesser c.loop-point.invariant.reached
          (is_one f points c.loop-point.point-index point (omega arith) c.point-item.is);
      none_less = none_less_more f points c.loop-point.point-index point c.loop-point.least c.min-least.result (omega arith) c.point-item.is lesser
          c.loop-point.invariant.none_less;
    }

pub returns : goal.returns
returns g c = record {
  reached = c.loop-point.invariant.reached;
  none_less = none_less_all (travel g.C.ShowsFigures.figures) c.args.points.now c.loop-point.point-index c.loop-point.least (omega arith)
      c.loop-point.invariant.none_less;
}
