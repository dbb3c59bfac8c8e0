use Rattle.std.proofs.Common.{inl, inr, refl, subst, w64, ℤ}
use Rattle.std.proofs.lemmas.Int.{to_z-of_z}
use Rattle.feed_plans.specs.Shown.{HasNoDayBefore, IsDayBefore}
use Rattle.feed_plans.proofs.plans.yesterday_or_none.Goals as goal

pub returns-in-Ok : goal.returns-in-Ok
returns-in-Ok c =
    inl (subst (λ (instant : ℤ). IsDayBefore c.args.zone.now instant c.in-Ok.day) (to_z-of_z w64 c.args.instant c.ranges.instant) c.in-Ok.ensures.ok)

pub returns-in-Err : goal.returns-in-Err
returns-in-Err c =
    inr (subst (λ (instant : ℤ). HasNoDayBefore c.args.zone.now instant) (to_z-of_z w64 c.args.instant c.ranges.instant) c.in-Err.ensures.err.1, refl)
