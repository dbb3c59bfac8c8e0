-- The texts of journeys and times have no byte that needs to be escaped.
use Rattle.std.proofs.Common.{ℕ, zero, suc, ◌<◌, ◌≤◌, ◌/◌, ◌%◌, ◌==◌, Bool, true, false, List, [], ◌∷◌, ◌++◌, codes, Option, Some, None, All}
use Rattle.std.proofs.Common.{if◌then◌else◌, nat_lt, refl, inl, inr, arith}
use Rattle.std.specs.Prelude.{decimal}
use Rattle.std.specs.Fmt.{digit_glyph, digits_onto, digits}
use Rattle.std.specs.List.{flat_map, slice_index}
use Rattle.std.specs.Str.{IsUtf8}
use Rattle.std.proofs.Math.Nat.{mod-lt}
use Rattle.std.proofs.lemmas.Bool.{lt-ltb}
use Rattle.std.proofs.lemmas.List.Elements.{All-nil, All-cons, All-append, All-drop, All-head, All-tail}
use Rattle.std.proofs.lemmas.Str.{IsUtf8-from_ascii}
use Rattle.timetable.specs.Clocks.{two_digits, clock_bytes}
use Rattle.timetable.specs.declared.network.Footpath.{Footpath}
use Rattle.timetable.specs.JourneyValue.{RideValue, JourneyValue}
use Rattle.journeys.specs.Texts.{IsPlainByte, number_text, footpath_text, walk_text, leg_text, ride_text, start_text, text_of}

abbrev IsPlain : List ℕ → Type 0
IsPlain bytes = All IsPlainByte bytes

either : (b : Bool) (xs ys : List ℕ) → IsPlain xs → IsPlain ys → IsPlain (if b then xs else ys)
either true xs ys first second = first
either false xs ys first second = second

and_then : (xs ys : List ℕ) → IsPlain xs → IsPlain ys → IsPlain (xs ++ ys)
and_then xs ys first second = All-append IsPlainByte xs ys first second

behind : (b : ℕ) (xs : List ℕ) → IsPlainByte b → IsPlain xs → IsPlain (b ∷ xs)
behind b xs plain rest = All-cons IsPlainByte b xs plain rest

-- numbers
digit_is_plain : (d : ℕ) → d < 10 → IsPlainByte (digit_glyph false d)
digit_is_plain d small = rw (lt-ltb d 10 small) (inr (inl (omega (arith, small), omega (arith, small))))

digits_are_plain : (k n : ℕ) (rest : List ℕ) → IsPlain rest → IsPlain (digits_onto k 10 false n rest)
digits_are_plain zero n rest plain = plain
digits_are_plain (suc k) n rest plain =
    let digit = digit_glyph false (n % 10) in
    let one = behind digit rest (digit_is_plain (n % 10) (mod-lt n (omega arith))) plain in
    either (n / 10 == 0) (digit ∷ rest) (digits_onto k 10 false (n / 10) (digit ∷ rest)) one (digits_are_plain k (n / 10) (digit ∷ rest) one)

decimal_is_plain : (n : ℕ) → IsPlain (decimal n)
unfolding digits
decimal_is_plain n = digits_are_plain 64 n [] (All-nil IsPlainByte)

number_is_plain : (n : ℕ) → IsPlain (number_text n)
number_is_plain n = behind 32 (decimal n) (inl refl) (decimal_is_plain n)

-- words
abbrev IsLetter : ℕ → Type 0
IsLetter b = (97 ≤ b) × (b ≤ 122)

word_is_plain : (a b c d : ℕ) → IsLetter a → IsLetter b → IsLetter c → IsLetter d → IsPlain (32 ∷ a ∷ b ∷ c ∷ d ∷ [])
word_is_plain a b c d first second third fourth =
    behind 32 (a ∷ b ∷ c ∷ d ∷ []) (inl refl)
    (behind a (b ∷ c ∷ d ∷ []) (inr (inr first))
    (behind b (c ∷ d ∷ []) (inr (inr second)) (behind c (d ∷ []) (inr (inr third)) (behind d [] (inr (inr fourth)) (All-nil IsPlainByte)))))

walk_word : IsPlain (codes " walk")
walk_word =
    word_is_plain 119 97 108 107 (omega arith, omega arith) (omega arith, omega arith) (omega arith, omega arith) (omega arith, omega arith)

ride_word : IsPlain (codes " ride")
ride_word =
    word_is_plain 114 105 100 101 (omega arith, omega arith) (omega arith, omega arith) (omega arith, omega arith) (omega arith, omega arith)

walk_is_plain : (f : Footpath) → IsPlain (walk_text f)
walk_is_plain f =
    let ends = and_then (number_text f.to) (number_text f.secs) (number_is_plain f.to) (number_is_plain f.secs) in
    and_then (codes " walk") (footpath_text f) walk_word (and_then (number_text f.from) (number_text f.to ++ number_text f.secs) (number_is_plain f.from) ends)

all_walks : (walks : List Footpath) → IsPlain (flat_map walk_text walks)
all_walks [] = All-nil IsPlainByte
all_walks (f ∷ walks) = and_then (walk_text f) (flat_map walk_text walks) (walk_is_plain f) (all_walks walks)

ride_is_plain : (r : RideValue) → IsPlain (ride_text r)
ride_is_plain r =
    let leg = and_then (number_text r.leg.first) (number_text r.leg.last) (number_is_plain r.leg.first) (number_is_plain r.leg.last) in
    and_then (codes " ride") (leg_text r.leg ++ flat_map walk_text r.walk) ride_word
    (and_then (leg_text r.leg) (flat_map walk_text r.walk) leg (all_walks r.walk))

all_rides : (rides : List RideValue) → IsPlain (flat_map ride_text rides)
all_rides [] = All-nil IsPlainByte
all_rides (r ∷ rides) = and_then (ride_text r) (flat_map ride_text rides) (ride_is_plain r) (all_rides rides)

start_is_plain : (start : Option Footpath) → IsPlain (start_text start)
start_is_plain None = All-nil IsPlainByte
start_is_plain (Some f) = walk_is_plain f

pub journey_is_plain : (j : JourneyValue) → All IsPlainByte (text_of j)
journey_is_plain j =
    All-drop IsPlainByte 1 (start_text j.start ++ flat_map ride_text j.rides)
    (and_then (start_text j.start) (flat_map ride_text j.rides) (start_is_plain j.start) (all_rides j.rides))

-- times
two_are_plain : (n : ℕ) → IsPlain (two_digits n)
two_are_plain n =
    either (nat_lt n 10) (48 ∷ decimal n) (decimal n) (behind 48 (decimal n) (inr (inl (omega arith, omega arith))) (decimal_is_plain n)) (decimal_is_plain n)

pub clock_is_plain : (time : ℕ) → All IsPlainByte (clock_bytes time)
clock_is_plain time =
    let is_colon : IsPlainByte 58 = inr (inl (omega arith, omega arith)) in
    let first = and_then (two_digits (time / 3600)) (58 ∷ two_digits (time / 60 % 60)) (two_are_plain (time / 3600))
    (behind 58 (two_digits (time / 60 % 60)) is_colon (two_are_plain (time / 60 % 60))) in
    and_then (two_digits (time / 3600) ++ 58 ∷ two_digits (time / 60 % 60)) (58 ∷ two_digits (time % 60)) first
    (behind 58 (two_digits (time % 60)) is_colon (two_are_plain (time % 60)))

-- plain bytes are characters of one byte
pub plain_is_small : (b : ℕ) → IsPlainByte b → b < 128
plain_is_small b (inl space) = omega (arith, space)
plain_is_small b (inr (inl digit)) = omega (arith, digit.1)
plain_is_small b (inr (inr letter)) = omega (arith, letter.1)

plain_is_ascii : (bytes : List ℕ) → IsPlain bytes → (i : ℕ) → slice_index bytes i < 128
plain_is_ascii [] plain i = omega arith
plain_is_ascii (b ∷ bytes) plain zero = plain_is_small b (All-head IsPlainByte b bytes plain)
plain_is_ascii (b ∷ bytes) plain (suc i) = plain_is_ascii bytes (All-tail IsPlainByte b bytes plain) i

pub plain_is_utf8 : (bytes : List ℕ) → All IsPlainByte bytes → IsUtf8 bytes
plain_is_utf8 bytes plain = IsUtf8-from_ascii bytes (plain_is_ascii bytes plain)
