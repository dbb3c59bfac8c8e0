-- The instant from which an image's clocks count, as a number and as a date and a time of UTC.
use Rattle.std.specs.Prelude.{◌≡◌, ◌⊎◌, ◌++◌, ◌/◌, ◌%◌, ℕ, ℤ, pos, List, [], codes, if◌then◌else◌, unsigned_abs}
use Rattle.std.specs.Int.{int_div_euclid, int_rem_euclid, is_negative}
use Rattle.std.specs.Fmt.{signed_decimal}
use Rattle.jiff_core.specs.Calendar.{IsEpochDay}
use Rattle.jiff_core.specs.Date.{epoch_day}
use Rattle.jiff_core.specs.declared.civil.date.Date.{Date}
use Rattle.timetable.specs.Clocks.{clock_bytes, two_digits}
use Rattle.text_pieces.specs.declared.form.Form.{Form}

-- the day of UTC that has an instant, which is 0 for 1970-01-01, and the second of that day
abbrev pub utc_day : ℤ → ℤ
utc_day instant = int_div_euclid instant (pos 86_400)

abbrev pub utc_second : ℤ → ℕ
utc_second instant = unsigned_abs (int_rem_euclid instant (pos 86_400))

-- a minus sign for years before the year 0
abbrev pub sign_text : ℤ → List ℕ
sign_text year = if is_negative year then codes "-" else []

-- a year in four digits, after its sign
unfoldable pub year_text : ℤ → List ℕ
year_text year = (sign_text year ++ two_digits (unsigned_abs year / 100)) ++ two_digits (unsigned_abs year % 100)

unfoldable pub date_text : Date → List ℕ
date_text date = (((year_text date.year ++ codes "-") ++ two_digits date.month) ++ codes "-") ++ two_digits date.day

-- the line of the base, in seconds after 1970-01-01T00:00:00Z
unfoldable pub base_line : ℤ → List ℕ
base_line base = (codes "base " ++ signed_decimal base) ++ codes "\n"

-- a date and a time, between two texts
unfoldable pub moment_text : List ℕ → Date → ℕ → List ℕ → List ℕ
moment_text before date second after = (((before ++ date_text date) ++ codes "T") ++ clock_bytes second) ++ after

-- a date and a time as a line, and as a member of an object of JSON that isn't its first
abbrev pub utc_text : Form → Date → ℕ → List ℕ
utc_text Form.Lines date second = moment_text (codes "utc ") date second (codes "Z\n")
utc_text Form.Json date second = moment_text (codes ",\"utc\":\"") date second (codes "Z\"")

-- the same where there is no date
abbrev pub no_utc_text : Form → List ℕ
no_utc_text Form.Lines = codes "utc none\n"
no_utc_text Form.Json = codes ",\"utc\":null"

-- the text of an instant, if its day is a day of the calendar, whose years are -9999 to 9999; else the text that says that there is none
abbrev pub IsUtc : Form → ℤ → List ℕ → Type 0
IsUtc form instant text =
    ((date : Date) × (epoch_day date ≡ utc_day instant) × (text ≡ utc_text form date (utc_second instant)))
    ⊎ ((¬ IsEpochDay (utc_day instant)) × (text ≡ no_utc_text form))

-- the base as a number, and as a date and a time
abbrev pub HasBase : ℤ → List ℕ → Type 0
HasBase base lines = (utc : List ℕ) × IsUtc Form.Lines base utc × (lines ≡ base_line base ++ utc)

-- the base in seconds, as the first member of an object of JSON
abbrev pub base_member : ℤ → List ℕ
base_member base = codes "{\"base\":" ++ signed_decimal base

-- the same, and then as a date and a time
abbrev pub HasBaseMembers : ℤ → List ℕ → Type 0
HasBaseMembers base text = (utc : List ℕ) × IsUtc Form.Json base utc × (text ≡ base_member base ++ utc)
