use Rattle.std.proofs.Common.{◌≡◌, ◌∙◌, FitsSigned, ap, inl, inr, refl, rules, subst, sym, w64, ℤ}
use Rattle.std.proofs.lemmas.Bool.{false≢true}
use Rattle.std.proofs.lemmas.Int.{to_z-of_z}
use Rattle.std.proofs.lemmas.Result.{on_ok_weaker}
use Rattle.jiff_core.specs.Calendar.{IsEpochDay}
use Rattle.jiff_core.specs.Date.{epoch_day}
use Rattle.image_facts.specs.Base.{no_utc_text, utc_day, utc_second, utc_text}
use Rattle.image_facts.proofs.base.append_utc.Goals as goal

pub returns-in-Ok : goal.returns-in-Ok
returns-in-Ok c =
    let same = to_z-of_z w64 c.args.instant c.ranges.instant in
    let fits : FitsSigned w64 c.day_of.result = search rules in
    let day : epoch_day c.in-Ok.date ≡ utc_day c.args.instant =
    subst (λ (n : ℤ). epoch_day c.in-Ok.date ≡ n) (to_z-of_z w64 c.day_of.result fits) c.in-Ok.ensures.value
    ∙ subst (λ (n : ℤ). c.day_of.result ≡ utc_day n) same c.day_of.ensures in
    let second : c.second_of-second.result ≡ utc_second c.args.instant =
    subst (λ (n : ℤ). c.second_of-second.result ≡ utc_second n) same c.second_of-second.ensures in
    on_ok_weaker c.append_date_and_time.result
    (λ is. (
      utc_text c.args.form c.in-Ok.date c.second_of-second.result,
      inl (c.in-Ok.date, day, ap (λ s. utc_text c.args.form c.in-Ok.date s) second),
      is,
    ))
    c.append_date_and_time.ensures

pub returns-in-Err : goal.returns-in-Err
returns-in-Err c =
    let same = to_z-of_z w64 c.args.instant c.ranges.instant in
    let fits : FitsSigned w64 c.day_of.result = search rules in
    let day : c.day_of.result ≡ utc_day c.args.instant = subst (λ (n : ℤ). c.day_of.result ≡ utc_day n) same c.day_of.ensures in
    on_ok_weaker c.append_no_utc.result
    (λ is. (
      no_utc_text c.args.form,
      inr (
        λ known. false≢true (c.in-Err.ensures.succeeds.1 (subst (λ (n : ℤ). IsEpochDay n) (sym (to_z-of_z w64 c.day_of.result fits ∙ day)) known)),
        refl,
      ),
      is,
    ))
    c.append_no_utc.ensures
