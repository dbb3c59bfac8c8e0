-- Dates are ordered as the numbers that they spell.
use Rattle.std.proofs.Common.{◌≡◌, ◌≤◌, ◌<◌, ◌==◌, nat_le, true, arith}
use Rattle.std.proofs.lemmas.Bool.Decides.{nat_tests}
use Rattle.gtfs_rows.specs.Values.{is_civil}
use Rattle.gtfs_rows.specs.declared.values.Day.{Day}
use Rattle.service_days.proofs.DayLemmas.{in_short_month}
use Rattle.service_days.specs.Services.{date_number, is_not_after, is_same_day}

compared_below : (a b : Day) → a.month < 256 → a.day < 256 → b.month < 256 → b.day < 256
    → nat_le (date_number a) (date_number b) ≡ is_not_after a b
compared_below a b am ad bm bd = grind (arith, nat_tests)

same_below : (a b : Day) → a.month < 256 → a.day < 256 → b.month < 256 → b.day < 256
    → (date_number a == date_number b) ≡ is_same_day a b
same_below a b am ad bm bd = grind (arith, nat_tests)

pub compared : (a b : Day) → is_civil a ≡ true → is_civil b ≡ true → nat_le (date_number a) (date_number b) ≡ is_not_after a b
compared a b civil also =
    let x = in_short_month a civil in
    let y = in_short_month b also in
    compared_below a b x.0 x.1 y.0 y.1

pub same : (a b : Day) → is_civil a ≡ true → is_civil b ≡ true → (date_number a == date_number b) ≡ is_same_day a b
same a b civil also =
    let x = in_short_month a civil in
    let y = in_short_month b also in
    same_below a b x.0 x.1 y.0 y.1
