use Rattle.std.proofs.Common.{◌∙◌, ap, inl, inr, neg_ℤ, pos, refl, subst, sym, w64, ◌-ℤ◌, ◌<ℤ◌, ℤ}
use Rattle.std.proofs.lemmas.Bool.{false≢true}
use Rattle.std.proofs.lemmas.Int.{to_z-of_z}
use Rattle.std.proofs.lemmas.Result.{IfErr-weaker, IfOk-weaker}
use Rattle.jiff.specs.Types.{Date}
use Rattle.jiff.specs.Words.{epoch_day}
use Rattle.feed_plans.specs.Shown.{IsShownAt}
use Rattle.feed_plans.proofs.clock.yesterday.Goals as goal

pub returns-in-Ok-clause-ok : goal.returns-in-Ok-clause-ok
returns-in-Ok-clause-ok c =
    let shown : IsShownAt c.args.zone.now c.args.instant c.in_ok-shown.shown =
    subst (λ (instant : ℤ). IsShownAt c.args.zone.now instant c.in_ok-shown.shown) (to_z-of_z w64 c.args.instant c.ranges.instant) c.in_ok-shown.ensures.ok in
    let number = c.in-Ok.ensures.value ∙ ap (λ (date : Date). epoch_day date -ℤ pos 1) c.date.ensures in
    IfOk-weaker c.day_of.result _ _ (λ day is. (c.in_ok-shown.shown, shown, c.in-Ok.before, number, is)) c.day_of.ensures.ok

pub returns-in-Ok-clause-err : goal.returns-in-Ok-clause-err
returns-in-Ok-clause-err c =
    let shown : IsShownAt c.args.zone.now c.args.instant c.in_ok-shown.shown =
    subst (λ (instant : ℤ). IsShownAt c.args.zone.now instant c.in_ok-shown.shown) (to_z-of_z w64 c.args.instant c.ranges.instant) c.in_ok-shown.ensures.ok in
    let number = c.in-Ok.ensures.value ∙ ap (λ (date : Date). epoch_day date -ℤ pos 1) c.date.ensures in
    IfErr-weaker c.day_of.result _ _
    (λ fault is. (is.0, inr (c.in_ok-shown.shown, shown, inr (c.in-Ok.before, number, is.1)))) c.day_of.ensures.err

pub returns-in-Err-clause-err : goal.returns-in-Err-clause-err
returns-in-Err-clause-err c =
    let shown : IsShownAt c.args.zone.now c.args.instant c.in_ok-shown.shown =
    subst (λ (instant : ℤ). IsShownAt c.args.zone.now instant c.in_ok-shown.shown) (to_z-of_z w64 c.args.instant c.ranges.instant) c.in_ok-shown.ensures.ok in (
      refl,
      inr (
        c.in_ok-shown.shown,
        shown,
        inl (λ later. false≢true (c.in-Err.ensures.succeeds.1
            (subst (λ (date : Date). neg_ℤ (pos 4_371_587) <ℤ epoch_day date) (sym c.date.ensures) later))),
      ),
    )
