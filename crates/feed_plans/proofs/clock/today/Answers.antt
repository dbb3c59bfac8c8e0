use Rattle.std.proofs.Common.{inr, pos, subst, w64, ◌≤ℤ◌, ℤ}
use Rattle.std.proofs.lemmas.Int.{to_z-of_z}
use Rattle.std.proofs.lemmas.Result.{IfErr-weaker, IfOk-weaker}
use Rattle.jiff.specs.Types.{Date}
use Rattle.feed_plans.specs.Shown.{IsDayOf, IsShownAt}
use Rattle.feed_plans.proofs.clock.today.Goals as goal

pub returns-clause-ok : goal.returns-clause-ok
returns-clause-ok c =
    let shown : IsShownAt c.args.zone.now c.args.instant c.in_ok-shown.shown =
    subst (λ (instant : ℤ). IsShownAt c.args.zone.now instant c.in_ok-shown.shown) (to_z-of_z w64 c.args.instant c.ranges.instant) c.in_ok-shown.ensures.ok in
    IfOk-weaker c.day_of.result _ _ (λ day is. (c.in_ok-shown.shown, shown, subst (λ (date : Date). IsDayOf day date) c.date.ensures is))
    c.day_of.ensures.ok

pub returns-clause-err : goal.returns-clause-err
returns-clause-err c =
    let shown : IsShownAt c.args.zone.now c.args.instant c.in_ok-shown.shown =
    subst (λ (instant : ℤ). IsShownAt c.args.zone.now instant c.in_ok-shown.shown) (to_z-of_z w64 c.args.instant c.ranges.instant) c.in_ok-shown.ensures.ok in
    IfErr-weaker c.day_of.result _ _ (λ fault is. (is.0, inr (c.in_ok-shown.shown, shown, subst (λ (date : Date). date.year ≤ℤ pos 0) c.date.ensures is.1)))
    c.day_of.ensures.err
