-- The weekday of a day is one of seven.
use Rattle.std.proofs.Common.{◌≡◌, ◌∙◌, ◌<◌, ℕ, Bool, None, Some, ap, if◌then◌else◌, inl, inr, pos, subst, sym}
use Rattle.std.proofs.lemmas.Bool.{cases_Bool}
use Rattle.std.proofs.lemmas.Option.{none-some, same_Some}
use Rattle.jiff_core.specs.Calendar.{days_from_civil}
use Rattle.jiff_core.proofs.CalendarLemmas.{weekday_number_bound}
use Rattle.gtfs_rows.specs.Values.{is_civil}
use Rattle.gtfs_rows.specs.declared.values.Day.{Day}
use Rattle.service_days.specs.Services.{civil_weekday, dated, weekday_on}
use Rattle.service_days.specs.declared.day.DatedDay.{DatedDay}

below_seven : (day : Day) (weekday : ℕ) → civil_weekday day ≡ Some weekday → weekday < 7
below_seven day weekday is =
    elim (cases_Bool (is_civil day)) [
      | inl civil ↦ subst (λ (n : ℕ). n < 7)
          (same_Some (weekday_on day) weekday (sym (ap (λ (b : Bool). if b then Some (weekday_on day) else None) civil) ∙ is))
          (weekday_number_bound (days_from_civil (pos day.year) day.month day.day))
      | inr none ↦ absurd (none-some weekday (sym (ap (λ (b : Bool). if b then Some (weekday_on day) else None) none) ∙ is))
    ]

pub weekday_below : (day : DatedDay) (weekday : ℕ) → day ≡ dated day.day → day.weekday ≡ Some weekday → weekday < 7
weekday_below day weekday is there = below_seven day.day weekday (sym (ap (λ (d : DatedDay). d.weekday) is) ∙ there)
