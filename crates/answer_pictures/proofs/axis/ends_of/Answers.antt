use Rattle.std.proofs.Common.{◌≡◌, All, ap, subst, arith}
use Rattle.std.proofs.lemmas.List.{take_all}
use Rattle.answer_pictures.specs.LineValue.{LineValue}
use Rattle.answer_pictures.specs.Pictures.{IsBetween}
use Rattle.answer_pictures.proofs.Spans.{covers_more}
use Rattle.answer_pictures.proofs.axis.ends_of.Goals as goal

pub loop-line-preserved : goal.loop-line-preserved
loop-line-preserved c =
    let departs : c.line.inside.departure ≡ c.line-item.result.departure = ap (λ (v : LineValue). v.departure) c.line.view_is in
    let arrives : c.line.inside.arrival ≡ c.line-item.result.arrival = ap (λ (v : LineValue). v.arrival) c.line.view_is in
    covers_more c.loop-line.first c.loop-line.last c.min-first.result c.later_of-last.result c.args.lines.now c.loop-line.line-index c.line-item.result
    c.loop-line-test.true c.line-item.is (omega (arith, c.min-first.ensures)) (omega (arith, c.min-first.ensures, departs))
    c.later_of-last.ensures.0 (rw arrives at c.later_of-last.ensures.1) c.loop-line.invariant

pub returns : goal.returns
returns c = subst (All (IsBetween c.loop-line.first c.loop-line.last))
    (take_all c.loop-line.line-index c.args.lines.now (omega (arith, c.loop-line-test.false))) c.loop-line.invariant
