-- The order of civil days, and their numbers in the calendar.
use Rattle.std.proofs.Common.{◌≡◌, ◌≤◌, ◌<◌, ◌+◌, ◌⊎◌, inl, inr, ◌==◌, ◌&&◌, if◌then◌else◌, ℕ, pos, ◌+ℤ◌, true, false, refl, sym, ap, ◌∙◌, arith}
use Rattle.std.proofs.lemmas.Bool.{cases_Bool, cases_order, false≢true}
use Rattle.std.proofs.lemmas.Bool.Decides.{nat_tests}
use Rattle.jiff_core.specs.Calendar.{day_count, days_from_civil, days_in_month, IsCivilDate}
use Rattle.jiff_core.proofs.SignedLemmas.{signed_arith}
use Rattle.jiff_core.proofs.CalendarLemmas.{day_count-day, day_count-last_of_year, day_count-lt_month, day_count-lt_year}
use Rattle.jiff_core.proofs.CalendarLemmas.{day_count-next_month, day_count-next_year}
use Rattle.jiff_core.proofs.CalendarLemmas.{day_count_bounds, days_from_civil-day_count, days_in_month_bounds}
use Rattle.gtfs_rows.specs.Values.{is_civil}
use Rattle.gtfs_rows.specs.declared.values.Day.{Day}
use Rattle.service_days.proofs.DayLemmas.{counted_on}
use Rattle.service_days.specs.Days.{day_after}
use Rattle.service_days.specs.Services.{is_not_after}
use Rattle.feed_days.specs.Service.{day_ordinal}

-- a day lies in its year and its month
pub record IsInMonth (d : Day) : Type 0 where
  pub year_from : 1 ≤ d.year
  pub year_to : d.year ≤ 9999
  pub month_from : 1 ≤ d.month
  pub month_to : d.month ≤ 12
  pub day_from : 1 ≤ d.day
  pub day_to : d.day ≤ days_in_month (pos d.year) d.month

pub in_month : (d : Day) → is_civil d ≡ true → IsInMonth d
in_month d civil = record {
  year_from = grind (arith, nat_tests);
  year_to = grind (arith, nat_tests);
  month_from = grind (arith, nat_tests);
  month_to = grind (arith, nat_tests);
  day_from = grind (arith, nat_tests);
  day_to = grind (arith, nat_tests);
}

pub is_civil_in : (d : Day) → IsInMonth d → is_civil d ≡ true
is_civil_in d is = grind (arith, nat_tests)

pub civil_date_of : (d : Day) → IsInMonth d → IsCivilDate (pos d.year) d.month d.day
civil_date_of d is = ((omega (arith, signed_arith), omega (arith, signed_arith)), (is.month_from, is.month_to), (is.day_from, is.day_to))

-- the one day comes before the other: by year, then by month, then by day
pub record IsBefore (a b : Day) : Type 0 where
  pub by : (a.year < b.year) ⊎ ((a.year ≡ b.year) × ((a.month < b.month) ⊎ ((a.month ≡ b.month) × (a.day < b.day))))

pub before_of : (a b : Day) → is_not_after b a ≡ false → IsBefore a b
before_of a b late =
    elim (cases_order a.year b.year) [
      | inr (inl lt) ↦ record { by = inl lt }
      | inl year ↦ elim (cases_order a.month b.month) [
        | inr (inl lt) ↦ record { by = inr (year, inl lt) }
        | inl month ↦ record { by = inr (year, inr (month, grind (arith, nat_tests))) }
        | inr (inr gt) ↦ absurd (grind (arith, nat_tests))
      ]
      | inr (inr gt) ↦ absurd (grind (arith, nat_tests))
    ]

pub not_after_itself : (a : Day) → is_not_after a a ≡ true
not_after_itself a = grind (arith, nat_tests)

pub not_after_turned : (a b : Day) → is_not_after a b ≡ false → is_not_after b a ≡ true
not_after_turned a b late = grind (arith, nat_tests)

pub not_after_joined : (a b c : Day) → is_not_after a b ≡ true → is_not_after b c ≡ true → is_not_after a c ≡ true
not_after_joined a b c one other = grind (arith, nat_tests)

pub same_parts : (a b : Day) → a.year ≡ b.year → a.month ≡ b.month → a.day ≡ b.day → a ≡ b
same_parts a b year month day = λ i. record { year = year i; month = month i; day = day i }

-- days that come one before the other have places so
number_lt : (a b : Day) → IsInMonth a → IsInMonth b → IsBefore a b → day_ordinal a < day_ordinal b
number_lt a b in_a in_b before =
    elim before.by [
      | inl year ↦ day_count-lt_year (pos a.year) a.month a.day (pos b.year) b.month b.day (civil_date_of a in_a) in_b.day_from (omega (arith, signed_arith))
      | inr (year, inl month) ↦ (let same : day_count (pos a.year) b.month b.day ≡ day_ordinal b = ap (λ (y : ℕ). day_count (pos y) b.month b.day) year in
          let less = day_count-lt_month (pos a.year) a.month a.day b.month b.day (civil_date_of a in_a) in_b.day_from month in omega (arith, same, less))
      | inr (year, inr (month, day)) ↦ (let same : day_count (pos a.year) a.month b.day ≡ day_ordinal b =
          ap (λ (y : ℕ). day_count (pos y) a.month b.day) year ∙ ap (λ (m : ℕ). day_count (pos b.year) m b.day) month in
          let e = day_count-day (pos a.year) a.month a.day b.day in_a.day_from in_b.day_from in omega (arith, same, e, day))
    ]

pub not_after_by_number : (a b : Day) → is_civil a ≡ true → is_civil b ≡ true → day_ordinal a ≤ day_ordinal b → is_not_after a b ≡ true
not_after_by_number a b one other le =
    elim (cases_Bool (is_not_after a b)) [
      | inl is ↦ is
      | inr late ↦ absurd (let lt = number_lt b a (in_month b other) (in_month a one) (before_of b a late) in omega (arith, le, lt))
    ]

-- two civil days with one place are the same
pub same_number : (a b : Day) → is_civil a ≡ true → is_civil b ≡ true → day_ordinal a ≡ day_ordinal b → a ≡ b
same_number a b one other e =
    elim (cases_Bool (is_not_after a b)) [
      | inr late ↦ absurd (let lt = number_lt b a (in_month b other) (in_month a one) (before_of b a late) in omega (arith, e, lt))
      | inl first ↦ elim (cases_Bool (is_not_after b a)) [
        | inr late ↦ absurd (let lt = number_lt a b (in_month a one) (in_month b other) (before_of a b late) in omega (arith, e, lt))
        | inl second ↦ same_parts a b (grind (arith, nat_tests)) (grind (arith, nat_tests)) (grind (arith, nat_tests))
      ]
    ]

pub number_by_not_after : (a b : Day) → is_civil a ≡ true → is_civil b ≡ true → is_not_after a b ≡ true → day_ordinal a ≤ day_ordinal b
number_by_not_after a b one other is =
    elim (cases_Bool (is_not_after b a)) [
      | inr late ↦ (let lt = number_lt a b (in_month a one) (in_month b other) (before_of a b late) in omega (arith, lt))
      | inl back ↦ (let same = same_parts a b (grind (arith, nat_tests)) (grind (arith, nat_tests)) (grind (arith, nat_tests)) in
          let e = ap day_ordinal same in omega (arith, e))
    ]

-- no civil day is before the first of the calendar or after its last
abbrev pub first_day : Day
first_day = record { year = 1; month = 1; day = 1 }

abbrev pub last_day : Day
last_day = record { year = 9999; month = 12; day = 31 }

pub first_is_least : (d : Day) → is_civil d ≡ true → is_not_after first_day d ≡ true
first_is_least d civil = let is = in_month d civil in grind (arith, nat_tests)

pub last_is_most : (d : Day) → is_civil d ≡ true → is_not_after d last_day ≡ true
last_is_most d civil =
    let is = in_month d civil in
    let few : d.day ≤ 31 = omega (arith, is.day_to, days_in_month_bounds (pos d.year) d.month) in
    grind (arith, nat_tests)

-- a place more for a day number more
pub number_of_number : (d e : Day) → days_from_civil (pos e.year) e.month e.day ≡ days_from_civil (pos d.year) d.month d.day +ℤ pos 1
    → day_ordinal e ≡ day_ordinal d + 1
number_of_number d e more =
    let one = days_from_civil-day_count (pos d.year) d.month d.day in
    let other = days_from_civil-day_count (pos e.year) e.month e.day in
    omega (arith, signed_arith, more, one, other)

civil_of_three : (next first new : Day) → (is_civil next ≡ false → is_civil first ≡ false → is_civil new ≡ true)
    → is_civil (if is_civil next then next else (if is_civil first then first else new)) ≡ true
civil_of_three next first new last =
    elim (cases_Bool (is_civil next)) [
      | inl is ↦ rw is is
      | inr none ↦ rw none (elim (cases_Bool (is_civil first)) [
        | inl is ↦ rw is is
        | inr missing ↦ rw missing (last none missing)
      ])
    ]

-- a day that isn't civil in a month that is lies behind its end
behind_month : (d : Day) → is_civil d ≡ false → 1 ≤ d.year → d.year ≤ 9999 → 1 ≤ d.month → d.month ≤ 12 → 1 ≤ d.day → days_in_month (pos d.year) d.month < d.day
behind_month d none a b e f g = grind (arith, nat_tests)

-- a month whose first isn't civil lies behind the year's end
behind_year : (d : Day) → is_civil d ≡ false → 1 ≤ d.year → d.year ≤ 9999 → 1 ≤ d.month → 1 ≤ d.day → d.day ≤ days_in_month (pos d.year) d.month → 12 < d.month
behind_year d none a b e f g = grind (arith, nat_tests)

-- the day after a civil day is civil, but after the calendar's last
pub civil_after : (d : Day) → is_civil d ≡ true → (d ≡ last_day → ⊥) → is_civil (day_after d) ≡ true
civil_after d civil other =
    let is = in_month d civil in
    let next : Day = record d { day = d.day + 1 } in
    let first : Day = record { year = d.year; month = d.month + 1; day = 1 } in
    civil_of_three next first (record { year = d.year + 1; month = 1; day = 1 })
    (λ none missing.
    let behind = behind_month next none is.year_from is.year_to is.month_from is.month_to (omega arith) in
    let last : d.day ≡ days_in_month (pos d.year) d.month = omega (arith, behind, is.day_to) in
    let long = days_in_month_bounds (pos d.year) (d.month + 1) in
    let month : d.month ≡ 12 = omega (arith, is.month_to, behind_year first missing is.year_from is.year_to (omega arith) (omega arith) (omega (arith, long)))
    in
    let day : d.day ≡ 31 = rw month at last in
    let early : d.year < 9999 = elim (cases_order d.year 9999) [
      | inr (inl lt) ↦ lt
      | inl year ↦ absurd (other (same_parts d last_day year month day))
      | inr (inr gt) ↦ absurd (omega (arith, gt, is.year_to))
    ] in
    let from : 1 ≤ d.year + 1 = omega arith in
    let to : d.year + 1 ≤ 9999 = omega (arith, early) in
    let short = days_in_month_bounds (pos (d.year + 1)) 1 in
    is_civil_in (record { year = d.year + 1; month = 1; day = 1 })
    (record { year_from = from; year_to = to; month_from = omega arith; month_to = omega arith; day_from = omega arith; day_to = omega (arith, short) }))

-- a day before in the month
pub before_in_month : (d e : Day) → is_civil d ≡ true → e.year ≡ d.year → e.month ≡ d.month → e.day + 1 ≡ d.day → 1 ≤ e.day
    → (is_civil e ≡ true) × (day_ordinal e + 1 ≡ day_ordinal d)
before_in_month d e civil year month day some =
    let is = in_month d civil in
    let length : days_in_month (pos e.year) e.month ≡ days_in_month (pos d.year) d.month =
    ap (λ (y : ℕ). days_in_month (pos y) e.month) year ∙ ap (λ (m : ℕ). days_in_month (pos d.year) m) month in
    let same : day_ordinal e ≡ day_count (pos d.year) d.month e.day =
    ap (λ (y : ℕ). day_count (pos y) e.month e.day) year ∙ ap (λ (m : ℕ). day_count (pos d.year) m e.day) month in
    let more = day_count-day (pos d.year) d.month e.day d.day some is.day_from in (
      is_civil_in e (record {
        year_from = omega (arith, is.year_from, year);
        year_to = omega (arith, is.year_to, year);
        month_from = omega (arith, is.month_from, month);
        month_to = omega (arith, is.month_to, month);
        day_from = some;
        day_to = omega (arith, is.day_to, length, day);
      }),
      omega (arith, same, more, day),
    )

-- the last day of a month is civil
pub civil_end : (e : Day) → 1 ≤ e.year → e.year ≤ 9999 → 1 ≤ e.month → e.month ≤ 12 → e.day ≡ days_in_month (pos e.year) e.month
    → is_civil e ≡ true
civil_end e year_from year_to month_from month_to day =
    let bounds = days_in_month_bounds (pos e.year) e.month in
    is_civil_in e (record {
      year_from = year_from;
      year_to = year_to;
      month_from = month_from;
      month_to = month_to;
      day_from = omega (arith, bounds, day);
      day_to = omega (arith, day);
    })

end_number : (e : Day) → e.day ≡ days_in_month (pos e.year) e.month → day_ordinal e + 1 ≡ day_count (pos e.year) e.month 1 + days_in_month (pos e.year) e.month
end_number e day =
    let bounds = days_in_month_bounds (pos e.year) e.month in
    let more = day_count-day (pos e.year) e.month e.day 1 (omega (arith, bounds, day)) (omega arith) in
    omega (arith, more, day)

-- the last day of the month before
pub before_month : (d e : Day) → d.day ≡ 1 → e.year ≡ d.year → e.month + 1 ≡ d.month → 1 ≤ e.month → e.day ≡ days_in_month (pos e.year) e.month
    → day_ordinal e + 1 ≡ day_ordinal d
before_month d e first year month some day =
    let end = end_number e day in
    let next = day_count-next_month (pos e.year) e.month some in
    let same : day_ordinal d ≡ day_count (pos e.year) (e.month + 1) 1 =
    sym (ap (λ (y : ℕ). day_count (pos y) (e.month + 1) 1) year ∙ ap (λ (m : ℕ). day_count (pos d.year) m 1) month
    ∙ ap (λ (n : ℕ). day_count (pos d.year) d.month n) (sym first)) in
    omega (arith, end, next, same)

-- the last day of the year before
pub before_year : (d e : Day) → d.day ≡ 1 → d.month ≡ 1 → e.year + 1 ≡ d.year → e.month ≡ 12 → e.day ≡ days_in_month (pos e.year) e.month
    → day_ordinal e + 1 ≡ day_ordinal d
before_year d e first january year month day =
    let long : e.day ≡ 31 = rw month at day in
    let same : day_ordinal e ≡ day_count (pos e.year) 12 31 =
    ap (λ (m : ℕ). day_count (pos e.year) m e.day) month ∙ ap (λ (n : ℕ). day_count (pos e.year) 12 n) long in
    let end = day_count-last_of_year (pos e.year) in
    let next = day_count-next_year (pos e.year) (pos d.year) (omega (arith, signed_arith)) (omega (arith, signed_arith)) in
    let is : day_ordinal d ≡ day_count (pos d.year) 1 1 =
    ap (λ (m : ℕ). day_count (pos d.year) m d.day) january ∙ ap (λ (n : ℕ). day_count (pos d.year) 1 n) first in
    omega (arith, same, end, next, is)

-- a day with the parts of another is the other, and one with others isn't
pub same_by_parts : (a b : Day) → true ≡ ((a.year == b.year) && ((a.month == b.month) && (a.day == b.day))) → a ≡ b
same_by_parts a b e = same_parts a b (grind (arith, nat_tests)) (grind (arith, nat_tests)) (grind (arith, nat_tests))

tested_itself : (a : Day) → ((a.year == a.year) && ((a.month == a.month) && (a.day == a.day))) ≡ true
tested_itself a = grind (arith, nat_tests)

pub other_by_parts : (a b : Day) → false ≡ ((a.year == b.year) && ((a.month == b.month) && (a.day == b.day))) → a ≡ b → ⊥
other_by_parts a b e same =
    false≢true (e ∙ ap (λ (x : Day). (a.year == x.year) && ((a.month == x.month) && (a.day == x.day))) (sym same) ∙ tested_itself a)

pub before_last : (d : Day) → is_civil d ≡ true → day_ordinal d ≤ day_ordinal last_day
before_last d civil = number_by_not_after d last_day civil refl (last_is_most d civil)

pub after_first : (d : Day) → is_civil d ≡ true → day_ordinal first_day ≤ day_ordinal d
after_first d civil = number_by_not_after first_day d refl civil (first_is_least d civil)

-- the place after that of a civil day
pub next_number : (d : Day) → is_civil d ≡ true → day_ordinal (day_after d) ≡ day_ordinal d + 1
next_number d civil = number_of_number d (day_after d) (counted_on d civil)

-- a day that has another after it has a civil one after it
pub civil_before : (d e : Day) → is_civil d ≡ true → is_civil e ≡ true → day_ordinal d < day_ordinal e → is_civil (day_after d) ≡ true
civil_before d e civil other lt =
    civil_after d civil (λ last. let most = before_last e other in let same = ap day_ordinal last in omega (arith, lt, most, same))

pub number_bound : (d : Day) → is_civil d ≡ true → day_ordinal d ≤ 7_304_849
number_bound d civil = (day_count_bounds (pos d.year) d.month d.day (civil_date_of d (in_month d civil))).1

pub first_by_parts : (d : Day) → is_civil d ≡ true → d.day ≤ 1 → d.month ≤ 1 → d.year ≤ 1 → d ≡ first_day
first_by_parts d civil day month year =
    let is = in_month d civil in
    same_parts d first_day (omega (arith, is.year_from, year)) (omega (arith, is.month_from, month)) (omega (arith, is.day_from, day))

pub number_below : (a b : Day) → is_civil a ≡ true → is_civil b ≡ true → day_ordinal a ≤ day_ordinal b → (a ≡ b → ⊥) → day_ordinal a < day_ordinal b
number_below a b one other le differ =
    elim (cases_order (day_ordinal a) (day_ordinal b)) [
      | inr (inl lt) ↦ lt
      | inl same ↦ absurd (differ (same_number a b one other same))
      | inr (inr gt) ↦ absurd (omega (arith, le, gt))
    ]
