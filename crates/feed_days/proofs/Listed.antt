-- Consecutive days, and their lines.
use Rattle.std.proofs.Common.{◌≡◌, ◌≤◌, ◌<◌, ◌+◌, ◌++◌, ◌∷◌, [], ℕ, zero, suc, List, Bool, true, false, refl, sym, ap, ◌∙◌, arith, min}
use Rattle.std.proofs.Common.{get_or, length, map, take}
use Rattle.std.specs.Prelude.{Some, None, nat_lt, if◌then◌else◌}
use Rattle.std.specs.List.{flat_map}
use Rattle.std.proofs.lemmas.Bool.Decides.{nat_tests}
use Rattle.std.proofs.lemmas.List.{flat_map_more, get_or-map, length-map, take_more}
use Rattle.gtfs_rows.specs.declared.values.Day.{Day}
use Rattle.gtfs_tables.specs.declared.tables.Feed.{Feed}
use Rattle.service_days.specs.Days.{day_after}
use Rattle.connections.specs.Days.{days_from}
use Rattle.feed_days.specs.Days.{day_text, days_after, days_of, first_unlisted, listed_days, trips_text}
use Rattle.feed_days.specs.Service.{day_ordinal, trips_on}
use Rattle.text_pieces.specs.declared.form.Form.{Form}
use Rattle.feed_days.specs.declared.span.DaySpan.{DaySpan}

after_first : (day : Day) (n : ℕ) → days_after (day_after day) n ≡ day_after (days_after day n)
unfolding days_after
after_first day zero = refl
after_first day (suc n) = ap day_after (after_first day n)

from_more : (day : Day) (n : ℕ) → days_from day (suc n) ≡ days_from day n ++ days_after day n ∷ []
unfolding days_from days_after
from_more day zero = refl
from_more day (suc n) =
    ap (λ (days : List Day). day ∷ days) (from_more (day_after day) n ∙ ap (λ (d : Day). days_from (day_after day) n ++ d ∷ []) (after_first day n))

days_more : (day : Day) (n : ℕ) → days_from day (n + 1) ≡ days_from day n ++ days_after day n ∷ []
days_more day n = let e : n + 1 ≡ suc n = omega arith in rw e (from_more day n)

pub after_more : (first day : Day) (n : ℕ) → day ≡ days_after first n → day_after day ≡ days_after first (n + 1)
unfolding days_after
after_more first day n is = let e : n + 1 ≡ suc n = omega arith in rw e (ap day_after is)

pub none_yet : (first : Day) → days_from first 0 ≡ []
unfolding days_from
none_yet first = refl

pub after_none : (first : Day) → first ≡ days_after first 0
unfolding days_after
after_none first = refl

-- a day more
pub day_more : (first day : Day) (n : ℕ) (before new : List Day) → day ≡ days_after first n → before ≡ days_from first n
    → new ≡ before ++ day ∷ [] → new ≡ days_from first (n + 1)
day_more first day n before new is was now =
    now ∙ ap (λ (days : List Day). days ++ day ∷ []) was ∙ ap (λ (d : Day). days_from first n ++ d ∷ []) is ∙ sym (days_more first n)

-- all days are listed
pub all_listed : (span : DaySpan) (n : ℕ) → day_ordinal span.last ≡ day_ordinal span.first + n → n < 366
    → (listed_days span ≡ days_from span.first (n + 1)) × (first_unlisted span ≡ None)
unfolding listed_days first_unlisted
all_listed span n is few =
    let total : days_of span ≡ n + 1 = omega (arith, is) in
    let all : min 366 (days_of span) ≡ n + 1 = omega (arith, total, few) in
    let over : nat_lt 366 (days_of span) ≡ false = grind (arith, nat_tests, total, few) in (
      ap (days_from span.first) all,
      ap (λ (b : Bool). if b then Some (days_after span.first 366) else None) over,
    )

-- or there are more
pub more_listed : (span : DaySpan) → day_ordinal span.first + 366 ≤ day_ordinal span.last
    → (listed_days span ≡ days_from span.first 366) × (first_unlisted span ≡ Some (days_after span.first 366))
unfolding listed_days first_unlisted
more_listed span many =
    let all : min 366 (days_of span) ≡ 366 = omega (arith, many) in
    let over : nat_lt 366 (days_of span) ≡ true = grind (arith, nat_tests, many) in (
      ap (days_from span.first) all,
      ap (λ (b : Bool). if b then Some (days_after span.first 366) else None) over,
    )

-- a day more with its trips
pub text_more : (form : Form) (feed : Feed) (days : List Day) (counts : List ℕ) (i : ℕ) (d : Day) (e : ℕ) (first before new : List ℕ)
    → counts ≡ map (trips_on feed) days → i < length counts → before ≡ first ++ flat_map (day_text form feed) (take i days)
    → new ≡ before ++ trips_text form (get_or days i d) (get_or counts i e)
    → new ≡ first ++ flat_map (day_text form feed) (take (i + 1) days)
text_more form feed days counts i d e first before new are lt was now =
    let within : i < length days = (let long = ap length are ∙ length-map days (trips_on feed) in omega (arith, lt, long)) in
    let count : get_or counts i e ≡ trips_on feed (get_or days i d) =
    ap (λ (xs : List ℕ). get_or xs i e) are ∙ get_or-map (trips_on feed) days i d e within in
    now
    ∙ ap (λ (n : ℕ). before ++ trips_text form (get_or days i d) n) count
    ∙ ap (λ (xs : List ℕ). xs ++ day_text form feed (get_or days i d)) was
    ∙ flat_map_more (day_text form feed) first (take i days) (get_or days i d)
    ∙ ap (λ (ds : List Day). first ++ flat_map (day_text form feed) ds) (sym (take_more days i d within))
