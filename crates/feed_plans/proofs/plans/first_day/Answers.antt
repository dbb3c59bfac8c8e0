use Rattle.std.proofs.Common.{rules, subst, sym, w64, FitsSigned, ℤ}
use Rattle.std.proofs.lemmas.Int.{to_z-of_z}
use Rattle.std.specs.Prelude.{Option}
use Rattle.command_requests.specs.declared.plans.FirstDay.{FirstDay}
use Rattle.feed_plans.specs.Planning.{IsFirstDay, IsToday, IsYesterday}
use Rattle.feed_plans.proofs.plans.first_day.Goals as goal

pub returns-in-Today-Some : goal.returns-in-Today-Some
returns-in-Today-Some c =
    let fits : FitsSigned w64 c.in-Today-Some.instant = search rules in
    let shown : IsToday c.args.zone.now c.in-Today-Some.instant c.today_or_none.result =
    subst (λ (n : ℤ). IsToday c.args.zone.now n c.today_or_none.result) (to_z-of_z w64 c.in-Today-Some.instant fits) c.today_or_none.ensures in
    subst (λ (first : FirstDay). IsFirstDay first c.args.zone.now c.args.instant c.today_or_none.result) (sym c.in-Today-Some.is-0)
    (subst (λ (instant : Option ℤ). IsFirstDay FirstDay.Today c.args.zone.now instant c.today_or_none.result) (sym c.in-Today-Some.is-1) shown)

pub returns-in-Yesterday-Some : goal.returns-in-Yesterday-Some
returns-in-Yesterday-Some c =
    let fits : FitsSigned w64 c.in-Yesterday-Some.instant = search rules in
    let shown : IsYesterday c.args.zone.now c.in-Yesterday-Some.instant c.yesterday_or_none.result =
    subst (λ (n : ℤ). IsYesterday c.args.zone.now n c.yesterday_or_none.result) (to_z-of_z w64 c.in-Yesterday-Some.instant fits) c.yesterday_or_none.ensures in
    subst (λ (first : FirstDay). IsFirstDay first c.args.zone.now c.args.instant c.yesterday_or_none.result) (sym c.in-Yesterday-Some.is-0)
    (subst (λ (instant : Option ℤ). IsFirstDay FirstDay.Yesterday c.args.zone.now instant c.yesterday_or_none.result) (sym c.in-Yesterday-Some.is-1) shown)
