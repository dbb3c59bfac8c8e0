-- Times as clock texts: hours, minutes and seconds in decimal digits, with colons between them.
use Rattle.std.specs.Prelude.{◌≡◌, ◌≢◌, ℕ, ◌+◌, ◌*◌, ◌/◌, ◌%◌, ◌<◌, ◌≤◌, ◌⊎◌, List, ◌∷◌, ◌++◌, length, slice_index, nat_lt, if◌then◌else◌}
use Rattle.std.specs.Str.Parse.{IsNumeral, digits_value}
use Rattle.std.specs.Fmt.{decimal}

-- ':'
abbrev pub colon : ℕ
colon = 58

-- the text has hours of one to six digits, minutes and seconds of two; `time` is all of them in seconds
pub record SpellsClock (text : List ℕ) (time : ℕ) : Type 0 where
  pub hours : List ℕ
  pub minutes : List ℕ
  pub seconds : List ℕ
  pub parts : text ≡ hours ++ colon ∷ minutes ++ colon ∷ seconds
  pub numerals : IsNumeral 10 hours × IsNumeral 10 minutes × IsNumeral 10 seconds
  pub lengths : (length hours ≤ 6) × (length minutes ≡ 2) × (length seconds ≡ 2)
  pub small : (digits_value 10 minutes < 60) × (digits_value 10 seconds < 60)
  pub sum : time ≡ digits_value 10 hours * 3600 + digits_value 10 minutes * 60 + digits_value 10 seconds

-- a number in decimal, with at least two digits
abbrev pub two_digits : ℕ → List ℕ
two_digits n = if nat_lt n 10 then 48 ∷ decimal n else decimal n

-- the text of a time in seconds: at least two digits of hours, two of minutes and two of seconds
abbrev pub clock_bytes : ℕ → List ℕ
clock_bytes time = two_digits (time / 3600) ++ colon ∷ two_digits (time / 60 % 60) ++ colon ∷ two_digits (time % 60)

-- a clock text whose hours have two digits, or more than two and don't begin with '0'
abbrev pub HasNoSpareZero : List ℕ → Type 0
HasNoSpareZero text = (length text ≡ 8) ⊎ ((8 < length text) × (slice_index text 0 ≢ 48))
