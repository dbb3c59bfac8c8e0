use Rattle.std.proofs.Common.{List, ap, subst, ◌∙◌}
use Rattle.timetable.specs.JourneyValue.{RideValue, JourneyValue}
use Rattle.journeys.specs.Judged.{IsJudged}
use Rattle.journeys.proofs.CountLemmas.{judged_once}
use Rattle.journeys.proofs.counts.check.Goals as goal

pub returns-clause-only : goal.returns-clause-only
returns-clause-only c =
    let t = c.args.image.now.timetable in
    let q = c.args.query.now in
    let same = ap (λ (rides : List RideValue). record { start = c.journey.inside.start; rides = rides }) c.deref.ensures.value ∙ c.journey.view_is in
    judged_once t q c.args.journey.now c.judge.result (subst (λ (j : JourneyValue). IsJudged t q j c.judge.result) same c.judge.ensures)
