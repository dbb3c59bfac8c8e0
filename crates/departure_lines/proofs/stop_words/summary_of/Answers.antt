use Rattle.std.proofs.Common.{ap, sym, arith}
use Rattle.departure_lines.proofs.Summed.{summed}
use Rattle.departure_lines.proofs.stop_words.summary_of.Goals as goal

pub returns : goal.returns
returns g c =
    summed g.C.ShowsFigures.figures c.args.points.now c.args.walk c.index-points-0.result c.index-points-points.result
    _ _ c.least_travel.result (omega (arith, c.if-points-eq0.false)) c.index-points-0.is c.index-points-points.is c.least_travel.ensures
    (ap (λ point. point.departure) (sym c.index-points-0.is)) (ap (λ point. point.departure) (sym c.index-points-points.is))
