-- Numerals of clock texts, and the parts of a clock text.
use Rattle.std.proofs.Common.{◌≡◌, ◌≢◌, ℕ, ◌+◌, ◌-◌, ◌*◌, ◌/◌, ◌%◌, ◌^◌, ◌<◌, ◌≤◌, List, [], ◌∷◌, ◌++◌, length, take, drop, get_or, false, refl, sym}
use Rattle.std.proofs.Common.{ap, ◌∙◌, arith, inl, inr, lit<, append_assoc}
use mathlib.Core.List.{append-nil}
use Rattle.std.proofs.Math.Nat.{pow-le-pow_right}
use Rattle.std.proofs.Math.Seq.{take-append_seam, drop-append_seam, take-length}
use Rattle.std.proofs.lemmas.List.{get_or_append_left, length-append, length-take, length-drop, take-append-drop}
use Rattle.std.proofs.lemmas.Bool.{cases_eq, cases_lt, lt-ltb, le-ltb}
use Rattle.std.proofs.lemmas.Int.Digits.{digits_value-lt}
use Rattle.std.specs.Char.{digit_value}
use Rattle.std.specs.Str.Parse.{AllDigits, IsNumeral, digits_value}
use Rattle.std.specs.Fmt.{decimal, padded_integral, format_spec, char_count}
use Rattle.std.proofs.lemmas.Fmt.{decimal_digit, decimal_step, decimal_nonempty, decimal_is_IsNumeral, length-decimal-le, decimal-digits_value}
use Rattle.std.proofs.lemmas.Str.Parse.{numerals_by_value, tells_digits, digit_from_value}
use Rattle.timetable.specs.Clocks.{SpellsClock, HasNoSpareZero, two_digits, clock_bytes, colon}

minutes_there : (ms ss : List ℕ) → length ms ≡ 2 → take 2 (drop 1 (colon ∷ ms ++ colon ∷ ss)) ≡ ms
minutes_there [] ss two = absurd (omega arith)
minutes_there (a ∷ []) ss two = absurd (omega arith)
minutes_there (a ∷ b ∷ []) ss two = refl
minutes_there (a ∷ b ∷ c ∷ ms) ss two = absurd (omega arith)

seconds_there : (ms ss : List ℕ) → length ms ≡ 2 → length ss ≡ 2 → take 2 (drop 4 (colon ∷ ms ++ colon ∷ ss)) ≡ ss
seconds_there [] ss two same = absurd (omega arith)
seconds_there (a ∷ []) ss two same = absurd (omega arith)
seconds_there (a ∷ b ∷ []) ss two same = ap (λ n. take n ss) (sym same) ∙ take-length ss
seconds_there (a ∷ b ∷ c ∷ ms) ss two same = absurd (omega arith)

spelled_rest : (text : List ℕ) (time n : ℕ) (s : SpellsClock text time) → n + 6 ≡ length text
    → (take n text ≡ s.hours) × (drop n text ≡ colon ∷ s.minutes ++ colon ∷ s.seconds)
spelled_rest text time n s six =
    let rest : List ℕ = colon ∷ s.minutes ++ colon ∷ s.seconds in
    let whole : text ≡ s.hours ++ rest = s.parts ∙ append_assoc s.hours (colon ∷ s.minutes) (colon ∷ s.seconds) in
    let len : length s.hours ≡ n = omega (
      arith,
      ap length whole,
      length-append s.hours rest,
      length-append (colon ∷ s.minutes)
          (colon ∷ s.seconds),
      s.lengths.1,
      s.lengths.2,
    ) in (
      ap (take n) whole ∙ ap (λ k. take k (s.hours ++ rest)) (sym len) ∙ take-append_seam s.hours rest,
      ap (drop n) whole ∙ ap (λ k. drop k (s.hours ++ rest)) (sym len) ∙ drop-append_seam s.hours rest,
    )

-- the hours in front and the six bytes after them, of a text that spells a time
pub record HasParts (hours minutes seconds : List ℕ) (time : ℕ) : Type 0 where
  pub numerals : IsNumeral 10 hours × IsNumeral 10 minutes × IsNumeral 10 seconds
  pub small : (digits_value 10 minutes < 60) × (digits_value 10 seconds < 60)
  pub sum : time ≡ digits_value 10 hours * 3600 + digits_value 10 minutes * 60 + digits_value 10 seconds

pub spelled_parts : (text front rest : List ℕ) (time : ℕ) → text ≡ front ++ rest → length rest ≡ 6 → SpellsClock text time
    → HasParts front (take 2 (drop 1 rest)) (take 2 (drop 4 rest)) time
spelled_parts text front rest time whole six s =
    let r = spelled_rest text time (length front) s (omega (arith, ap length whole, length-append front rest)) in
    let hours : front ≡ s.hours = sym (take-append_seam front rest) ∙ ap (take (length front)) (sym whole) ∙ r.0 in
    let back : rest ≡ colon ∷ s.minutes ++ colon ∷ s.seconds = sym (drop-append_seam front rest) ∙ ap (drop (length front)) (sym whole) ∙ r.1 in
    let minutes : take 2 (drop 1 rest) ≡ s.minutes = ap (λ x. take 2 (drop 1 x)) back ∙ minutes_there s.minutes s.seconds s.lengths.1 in
    let seconds : take 2 (drop 4 rest) ≡ s.seconds = ap (λ x. take 2 (drop 4 x)) back ∙ seconds_there s.minutes s.seconds s.lengths.1 s.lengths.2 in
    rw (hours, minutes, seconds) (record { numerals = s.numerals; small = s.small; sum = s.sum })

padded_long : (ds : List ℕ) → 2 ≤ length ds → padded_integral (format_spec 32 0 4 2 (2 ^ 64 - 1)) false [] ds ≡ ds
unfolding padded_integral char_count
padded_long ds long =
    let none : 2 - length ds ≡ 0 = omega arith in
    rw none (append-nil ds)

padded_short : (d : ℕ) → padded_integral (format_spec 32 0 4 2 (2 ^ 64 - 1)) false [] (d ∷ []) ≡ 48 ∷ d ∷ []
unfolding padded_integral char_count
padded_short d = refl

decimal_long : (n : ℕ) → 10 ≤ n → n < 2 ^ 64 → 2 ≤ length (decimal n)
decimal_long n ten fits =
    let front : n / 10 < 2 ^ 64 = omega arith in
    let some = decimal_nonempty (n / 10) front in
    omega (arith, some, ap length (decimal_step n ten fits), length-append (decimal (n / 10)) ((48 + n % 10) ∷ []))

-- a hole `{:02}` writes a number in two digits at least
pub padded_is_two_digits : (n : ℕ) → n < 2 ^ 64 → padded_integral (format_spec 32 0 4 2 (2 ^ 64 - 1)) false [] (decimal n) ≡ two_digits n
padded_is_two_digits n fits =
    elim (cases_lt n 10) [
      | inl small ↦
          let one = decimal_digit n small in
          rw (lt-ltb n 10 small, one) (padded_short (48 + n))
      | inr ten ↦
          rw (le-ltb n 10 ten) (padded_long (decimal n) (decimal_long n ten fits))
    ]

rest_parts : (rest : List ℕ) → length rest ≡ 6 → get_or rest 0 0 ≡ colon → get_or rest 3 0 ≡ colon
    → rest ≡ colon ∷ take 2 (drop 1 rest) ++ colon ∷ take 2 (drop 4 rest)
rest_parts [] six first second = absurd (omega arith)
rest_parts (c ∷ []) six first second = absurd (omega arith)
rest_parts (c ∷ m ∷ []) six first second = absurd (omega arith)
rest_parts (c ∷ m ∷ n ∷ []) six first second = absurd (omega arith)
rest_parts (c ∷ m ∷ n ∷ d ∷ []) six first second = absurd (omega arith)
rest_parts (c ∷ m ∷ n ∷ d ∷ s ∷ []) six first second = absurd (omega arith)
rest_parts (c ∷ m ∷ n ∷ d ∷ s ∷ t ∷ []) six first second = cc
rest_parts (c ∷ m ∷ n ∷ d ∷ s ∷ t ∷ u ∷ rest) six first second = absurd (omega arith)

-- a text of these parts spells their time
pub parts_spell : (text front rest : List ℕ) (h m s : ℕ) → text ≡ front ++ rest → length rest ≡ 6 → length front ≤ 6
    → get_or rest 0 0 ≡ colon → get_or rest 3 0 ≡ colon
    → IsNumeral 10 front × (h ≡ digits_value 10 front)
    → IsNumeral 10 (take 2 (drop 1 rest)) × (m ≡ digits_value 10 (take 2 (drop 1 rest)))
    → IsNumeral 10 (take 2 (drop 4 rest)) × (s ≡ digits_value 10 (take 2 (drop 4 rest)))
    → m < 60 → s < 60 → SpellsClock text (h * 3600 + m * 60 + s)
parts_spell text front rest h m s whole six few first second hours minutes seconds m_small s_small =
    let parts = rest_parts rest six first second in
    record {
      hours = front;
      minutes = take 2 (drop 1 rest);
      seconds = take 2 (drop 4 rest);
      parts = whole ∙ ap (λ r. front ++ r) parts ∙ sym (append_assoc front (colon ∷ take 2 (drop 1 rest)) (colon ∷ take 2 (drop 4 rest)));
      numerals = (hours.0, minutes.0, seconds.0);
      lengths = (few, omega (arith, length-take 2 (drop 1 rest), length-drop 1 rest), omega (arith, length-take 2 (drop 4 rest), length-drop 4 rest));
      small = (rw minutes.1 at m_small, rw seconds.1 at s_small);
      sum = rw (hours.1, minutes.1, seconds.1) refl;
    }

-- six digits or fewer write a number below 1,000,000
pub hours_small : (front : List ℕ) (h : ℕ) → length front ≤ 6 → IsNumeral 10 front → h ≡ digits_value 10 front → h < 1000000
hours_small front h few numeral is =
    let more : 10 ^ length front ≤ 10 ^ 6 = pow-le-pow_right {n = 10} (lit< tt) {i = length front} {j = 6} few in
    omega (arith, digits_value-lt 10 front numeral.1)

-- the lengths of what stands in front of the six bytes
pub front_length : (text : List ℕ) (time : ℕ) → SpellsClock text time → (0 < length text - 6) × (length text - 6 ≤ 6) × ((length text - 6) + 6 ≡ length text)
front_length text time s =
    let rest : List ℕ = colon ∷ s.minutes ++ colon ∷ s.seconds in
    let whole : text ≡ s.hours ++ rest = s.parts ∙ append_assoc s.hours (colon ∷ s.minutes) (colon ∷ s.seconds) in
    let len : length text ≡ length s.hours + 6 = omega
    (arith, ap length whole, length-append s.hours rest, length-append (colon ∷ s.minutes) (colon ∷ s.seconds), s.lengths.1, s.lengths.2) in
    (omega (arith, s.numerals.0.0), omega (arith, s.lengths.0), omega arith)

-- what a text spells, by its indices
pub text_parts : (text : List ℕ) (time n : ℕ) → n + 6 ≡ length text → SpellsClock text time
    → HasParts (take n text) (take 2 (drop 1 (drop n text))) (take 2 (drop 4 (drop n text))) time
text_parts text time n six s =
    spelled_parts text (take n text) (drop n text) time (sym (take-append-drop n text)) (omega (arith, length-drop n text)) s

pub one_time_lem : (text : List ℕ) (time other : ℕ) → SpellsClock text time → SpellsClock text other → time ≡ other
one_time_lem text time other s t =
    let six = (front_length text time s).2 in
    (text_parts text time (length text - 6) six s).sum ∙ sym (text_parts text other (length text - 6) six t).sum

pub time_below_end : (text : List ℕ) (time : ℕ) → SpellsClock text time → time < 3600000000
time_below_end text time s =
    let hours : digits_value 10 s.hours < 1000000 = hours_small s.hours (digits_value 10 s.hours) s.lengths.0 s.numerals.0 refl in
    omega (arith, s.sum, s.small.0, s.small.1)

-- two digits or more write a number, and its value is that number
pub two_digits_value : (n : ℕ) → n < 2 ^ 64 → IsNumeral 10 (two_digits n) × (digits_value 10 (two_digits n) ≡ n)
two_digits_value n fits =
    let plain = decimal_is_IsNumeral n fits in
    elim (cases_lt n 10) [
      | inl small ↦ rw (lt-ltb n 10 small) ((omega arith, (lit< tt, plain.0.1)), plain.1)
      | inr ten ↦ rw (le-ltb n 10 ten) plain
    ]

-- how many digits there are
pub two_digits_length : (k n : ℕ) → 2 ≤ k → n < 10 ^ k → n < 2 ^ 64 → (2 ≤ length (two_digits n)) × (length (two_digits n) ≤ k)
two_digits_length k n two small fits =
    elim (cases_lt n 10) [
      | inl less ↦
          let one = decimal_digit n less in
          rw (lt-ltb n 10 less, one) (omega arith, omega arith)
      | inr ten ↦ rw (le-ltb n 10 ten) (decimal_long n ten fits, length-decimal-le k n (omega arith) small fits)
    ]

pub written_is_read_lem : (time : ℕ) → time < 3600000000 → SpellsClock (clock_bytes time) time
written_is_read_lem time below =
    let h : ℕ = time / 3600 in
    let m : ℕ = time / 60 % 60 in
    let s : ℕ = time % 60 in
    let hours = two_digits_value h (omega arith) in
    let minutes = two_digits_value m (omega arith) in
    let seconds = two_digits_value s (omega arith) in
    let long_h = two_digits_length 6 h (omega arith) (omega arith) (omega arith) in
    let long_m = two_digits_length 2 m (omega arith) (omega arith) (omega arith) in
    let long_s = two_digits_length 2 s (omega arith) (omega arith) (omega arith) in
    record {
      hours = two_digits h;
      minutes = two_digits m;
      seconds = two_digits s;
      parts = refl;
      numerals = (hours.0, minutes.0, seconds.0);
      lengths = (long_h.1, omega (arith, long_m), omega (arith, long_s));
      small = (omega (arith, minutes.1), omega (arith, seconds.1));
      sum = omega (arith, hours.1, minutes.1, seconds.1);
    }

-- digits that don't begin with '0' are what is written of their number
decimal_again : (ds : List ℕ) → IsNumeral 10 ds → 2 ≤ length ds → get_or ds 0 0 ≢ 48 → digits_value 10 ds < 2 ^ 64 → two_digits (digits_value 10 ds) ≡ ds
decimal_again ds numeral long first fits =
    let again : decimal (digits_value 10 ds) ≡ ds = decimal-digits_value (numerals_by_value (AllDigits 10) tells_digits) ds numeral.1 numeral.0
    (λ zero. absurd (first zero)) fits in
    elim (cases_lt (digits_value 10 ds) 10) [
      | inl small ↦
          let one = decimal_digit (digits_value 10 ds) small in
          absurd (omega (arith, ap length again, ap length one))
      | inr ten ↦ rw (le-ltb (digits_value 10 ds) 10 ten) again
    ]

zero_again : (ds : List ℕ) → IsNumeral 10 ds → length ds ≡ 2 → get_or ds 0 0 ≡ 48 → two_digits (digits_value 10 ds) ≡ ds
zero_again [] numeral two zero = absurd (omega arith)
zero_again (a ∷ []) numeral two zero = absurd (omega arith)
zero_again (a ∷ b ∷ []) numeral two zero =
    let range = digit_from_value b numeral.1.1.0 in
    let digit : digit_value b ≡ b - 48 = rw (le-ltb b 48 range.0, lt-ltb b 58 (omega arith)) refl in
    let value : digits_value 10 (a ∷ b ∷ []) ≡ b - 48 = rw zero (omega (arith, digit)) in
    let small : b - 48 < 10 = omega arith in
    let back : 48 + (b - 48) ≡ b = omega arith in
    rw (value, lt-ltb (b - 48) 10 small, decimal_digit (b - 48) small, back, zero) refl
zero_again (a ∷ b ∷ c ∷ ds) numeral two zero = absurd (omega arith)

two_again : (ds : List ℕ) → IsNumeral 10 ds → length ds ≡ 2 → two_digits (digits_value 10 ds) ≡ ds
two_again ds numeral two =
    elim (cases_eq (get_or ds 0 0) 48) [
      | inl zero ↦ zero_again ds numeral two zero
      | inr other ↦
          let small = hours_small ds (digits_value 10 ds) (omega arith) numeral refl in
          decimal_again ds numeral (omega arith) other (omega (arith, small))
    ]

hours_again : (text : List ℕ) (time : ℕ) (s : SpellsClock text time) → HasNoSpareZero text → two_digits (digits_value 10 s.hours) ≡ s.hours
hours_again text time s none =
    let rest : List ℕ = colon ∷ s.minutes ++ colon ∷ s.seconds in
    let whole : text ≡ s.hours ++ rest = s.parts ∙ append_assoc s.hours (colon ∷ s.minutes) (colon ∷ s.seconds) in
    let len : length text ≡ length s.hours + 6 = omega
    (arith, ap length whole, length-append s.hours rest, length-append (colon ∷ s.minutes) (colon ∷ s.seconds), s.lengths.1, s.lengths.2) in
    let small = hours_small s.hours (digits_value 10 s.hours) s.lengths.0 s.numerals.0 refl in
    elim none [
      | inl two ↦ two_again s.hours s.numerals.0 (omega arith)
      | inr more ↦
          let same : get_or text 0 0 ≡ get_or s.hours 0 0 = ap (λ t. get_or t 0 0) whole ∙ get_or_append_left s.hours rest 0 0 (omega (arith, more.0)) in
          decimal_again s.hours s.numerals.0 (omega (arith, more.0)) (λ zero. more.1 (same ∙ zero)) (omega (arith, small))
    ]

pub read_is_written_lem : (text : List ℕ) (time : ℕ) → SpellsClock text time → HasNoSpareZero text → clock_bytes time ≡ text
read_is_written_lem text time s none =
    let h : time / 3600 ≡ digits_value 10 s.hours = omega (arith, s.sum, s.small.0, s.small.1) in
    let m : time / 60 % 60 ≡ digits_value 10 s.minutes = omega (arith, s.sum, s.small.0, s.small.1) in
    let sec : time % 60 ≡ digits_value 10 s.seconds = omega (arith, s.sum, s.small.0, s.small.1) in
    let hours = hours_again text time s none in
    let minutes = two_again s.minutes s.numerals.1 s.lengths.1 in
    let seconds = two_again s.seconds s.numerals.2 s.lengths.2 in
    rw (h, m, sec, hours, minutes, seconds) (sym s.parts)
