-- The times, dates and numbers of tables.
use Rattle.std.specs.Prelude.{◌+◌, ◌-◌, ◌*◌, ◌==◌, ◌&&◌, if◌then◌else◌, ℕ, List, [], ◌∷◌, length, drop, take, fold, Option, Some, None, Bool, true, nat_le}
use Rattle.std.specs.Prelude.{nat_lt, pos}
use Rattle.std.specs.Char.{is_ascii_digit}
use Rattle.std.specs.List.{list_all, prefix_len}
use Rattle.jiff.specs.Words.{days_in_month}
use Rattle.gtfs_rows.specs.declared.values.Day.{Day}

-- the value of a decimal digit
abbrev pub digit_of : ℕ → Option ℕ
digit_of b = if is_ascii_digit b then Some (b - 48) else None

-- the value of tens and units
abbrev pub tens_and_units : Option ℕ → Option ℕ → Option ℕ
tens_and_units None units = None
tens_and_units (Some t) None = None
tens_and_units (Some t) (Some u) = Some (t * 10 + u)

-- the value of two decimal digits
abbrev pub two_digits_of : ℕ → ℕ → Option ℕ
two_digits_of a b = tens_and_units (digit_of a) (digit_of b)

-- hours, minutes and seconds as seconds; none if either separator isn't a colon (58), or minutes or seconds exceed 59
abbrev pub clock_of : Option ℕ → ℕ → Option ℕ → ℕ → Option ℕ → Option ℕ
clock_of None c m d s = None
clock_of (Some h) c None d s = None
clock_of (Some h) c (Some m) d None = None
clock_of (Some h) c (Some m) d (Some s) =
    if (c == 58) && (d == 58) && nat_le m 59 && nat_le s 59 then Some (h * 3600 + m * 60 + s) else None

-- the seconds of a time, H:MM:SS or HH:MM:SS
abbrev pub time_of : List ℕ → Option ℕ
time_of (h ∷ c ∷ m ∷ n ∷ d ∷ s ∷ t ∷ []) = clock_of (digit_of h) c (two_digits_of m n) d (two_digits_of s t)
time_of (g ∷ h ∷ c ∷ m ∷ n ∷ d ∷ s ∷ t ∷ []) = clock_of (two_digits_of g h) c (two_digits_of m n) d (two_digits_of s t)
time_of _ = None

-- the date is a civil date of the years 1 to 9999
abbrev pub is_civil : Day → Bool
is_civil d = nat_le 1 d.year && nat_le d.year 9999 && nat_le 1 d.month && nat_le d.month 12
    && nat_le 1 d.day && nat_le d.day (days_in_month (pos d.year) d.month)

abbrev pub checked_day : Day → Option Day
checked_day d = if is_civil d then Some d else None

-- the date of a century, a year of the century, a month and a day
abbrev pub day_of_parts : Option ℕ → Option ℕ → Option ℕ → Option ℕ → Option Day
day_of_parts (Some c) (Some y) (Some m) (Some d) = checked_day (record { year = c * 100 + y; month = m; day = d })
day_of_parts _ _ _ _ = None

-- the date of a text YYYYMMDD
abbrev pub day_of : List ℕ → Option Day
day_of (a ∷ b ∷ c ∷ d ∷ e ∷ f ∷ g ∷ h ∷ []) = day_of_parts (two_digits_of a b) (two_digits_of c d) (two_digits_of e f) (two_digits_of g h)
day_of _ = None

-- the number that decimal digits spell
abbrev pub decimal_of : List ℕ → ℕ
decimal_of digits = fold (λ n b. n * 10 + (b - 48)) 0 digits

-- nothing, or a point (46) and one or more zeros (48)
abbrev pub is_zero_fraction : List ℕ → Bool
is_zero_fraction [] = true
is_zero_fraction (point ∷ zeros) = (point == 46) && nat_lt 0 (length zeros) && list_all (λ b. b == 48) zeros

-- the number of a text: one to nine decimal digits, then nothing or a fraction of zeros
abbrev pub number_after : ℕ → List ℕ → Option ℕ
number_after digits text =
    if nat_lt 0 digits && nat_le digits 9 && is_zero_fraction (drop digits text) then Some (decimal_of (take digits text)) else None

abbrev pub number_of : List ℕ → Option ℕ
number_of text = number_after (prefix_len is_ascii_digit text) text
