-- The day after a day has the next day number.
use Rattle.std.proofs.Common.{◌≡◌, ◌≤◌, ◌<◌, ◌+◌, if◌then◌else◌, ℤ, pos, ◌+ℤ◌, Bool, true, false, refl, arith}
use Rattle.std.proofs.lemmas.Bool.Decides.{nat_tests}
use Rattle.jiff_core.specs.Calendar.{days_from_civil, days_in_month}
use Rattle.jiff_core.proofs.CalendarLemmas.{days_in_month_bounds}
use Rattle.jiff_core.proofs.DateLemmas.{days_from_civil-day, days_from_civil-next_month, days_from_civil-next_year}
use Rattle.jiff.proofs.SpanFacts.{signed_arith}
use Rattle.gtfs_rows.specs.Values.{is_civil}
use Rattle.gtfs_rows.specs.declared.values.Day.{Day}
use Rattle.service_days.specs.Days.{day_after}

abbrev number : Day → ℤ
number d = days_from_civil (pos d.year) d.month d.day

-- a day lies in its year and its month
record IsInMonth (d : Day) : Type 0 where
  year_from : 1 ≤ d.year
  year_to : d.year ≤ 9999
  month_from : 1 ≤ d.month
  month_to : d.month ≤ 12
  day_from : 1 ≤ d.day
  day_to : d.day ≤ days_in_month (pos d.year) d.month

in_month : (d : Day) → is_civil d ≡ true → IsInMonth d
in_month d civil = record {
  year_from = grind (arith, nat_tests);
  year_to = grind (arith, nat_tests);
  month_from = grind (arith, nat_tests);
  month_to = grind (arith, nat_tests);
  day_from = grind (arith, nat_tests);
  day_to = grind (arith, nat_tests);
}

-- the month and the day of a civil day are small
pub in_short_month : (d : Day) → is_civil d ≡ true → (d.month < 256) × (d.day < 256)
in_short_month d civil =
    let is = in_month d civil in
    let long = days_in_month_bounds (pos d.year) d.month in
    (omega (arith, is.month_to), omega (arith, is.day_to, long))

-- a day that isn't civil in a month that is lies behind its end
behind_month : (d : Day) → is_civil d ≡ false → 1 ≤ d.year → d.year ≤ 9999 → 1 ≤ d.month → d.month ≤ 12 → 1 ≤ d.day → days_in_month (pos d.year) d.month < d.day
behind_month d none a b e f g = grind (arith, nat_tests)

-- a month whose first isn't civil lies behind the year's end
behind_year : (d : Day) → is_civil d ≡ false → 1 ≤ d.year → d.year ≤ 9999 → 1 ≤ d.month → 1 ≤ d.day → d.day ≤ days_in_month (pos d.year) d.month → 12 < d.month
behind_year d none a b e f g = grind (arith, nat_tests)

-- the first of three days
first_of_three : (is_next is_first : Bool) (next first new : Day) (n : ℤ) → (is_next ≡ true → number next ≡ n)
    → (is_next ≡ false → is_first ≡ true → number first ≡ n)
    → (is_next ≡ false → is_first ≡ false → number new ≡ n) → number (if is_next then next else (if is_first then first else new)) ≡ n
first_of_three true is_first next first new n a b e = a refl
first_of_three false true next first new n a b e = b refl refl
first_of_three false false next first new n a b e = e refl refl

pub counted_on : (d : Day) → is_civil d ≡ true → number (day_after d) ≡ number d +ℤ pos 1
counted_on d civil =
    let is = in_month d civil in
    let next : Day = record d { day = d.day + 1 } in
    let first : Day = record { year = d.year; month = d.month + 1; day = 1 } in
    first_of_three (is_civil next) (is_civil first) next first (record { year = d.year + 1; month = 1; day = 1 }) (number d +ℤ pos 1)
    (λ _. let e = days_from_civil-day (pos d.year) d.month (d.day + 1) d.day (omega arith) is.day_from in omega (arith, signed_arith, e))
    (λ none _.
    let behind = behind_month next none is.year_from is.year_to is.month_from is.month_to (omega arith) in
    let last : d.day ≡ days_in_month (pos d.year) d.month = omega (arith, behind, is.day_to) in
    days_from_civil-next_month (pos d.year) d.month d.day is.month_from last)
    (λ none missing.
    let behind = behind_month next none is.year_from is.year_to is.month_from is.month_to (omega arith) in
    let last : d.day ≡ days_in_month (pos d.year) d.month = omega (arith, behind, is.day_to) in
    let long = days_in_month_bounds (pos d.year) (d.month + 1) in
    let month : d.month ≡ 12 = omega (arith, is.month_to, behind_year first missing is.year_from is.year_to (omega arith) (omega arith) (omega (arith, long)))
    in
    let day : d.day ≡ 31 = rw month at last in
    rw (month, day) (days_from_civil-next_year (pos d.year) (pos (d.year + 1)) (omega (arith, signed_arith)) (omega (arith, signed_arith))))
