-- Days in order, each once, with how many entries it has.
use Rattle.std.proofs.Common.{◌≡◌, ◌++◌, ◌+◌, ◌∙◌, ◌∷◌, ◌<◌, ◌≤◌, ◌==◌, ◌↔◌, ◌⊎◌, ℕ, zero, suc, List, [], Bool, true, false}
use Rattle.std.proofs.Common.{ap, arith, get_or, if◌then◌else◌, inl, inr, length, refl, subst, sym}
use Rattle.std.specs.Prelude.{Contains, not, slice_index, ⊤}
use Rattle.std.specs.List.{flat_map}
use Rattle.std.specs.List.Sorted.{IsNonDecreasing, IsPermutation, IsStrictlyIncreasing}
use Rattle.std.proofs.lemmas.Bool.{cases_Bool, cases_eq, eq-eqb, eqb-true, true≢false}
use Rattle.std.proofs.lemmas.List.Sorted.{sum_by-IsPermutation}
use Rattle.std.proofs.lemmas.List.Sums.{sum_by-cons}
use Rattle.image_facts.specs.Days.{HasDays, day_text, trips_on}
use Rattle.text_pieces.specs.declared.form.Form.{Form}
use Rattle.image_facts.specs.Entries.{is_last_of, rest_text}

-- each of them once, where equal ones are side by side
abbrev pub distinct : List ℕ → List ℕ
distinct [] = []
distinct (day ∷ rest) = if is_last_of day rest then day ∷ distinct rest else distinct rest

-- they begin at a number or above, and don't fall
abbrev pub Climbs : ℕ → List ℕ → Type 0
Climbs low [] = ⊤
Climbs low (x ∷ xs) = (low ≤ x) × Climbs x xs

-- they begin at a number or above, and rise
abbrev pub Rises : ℕ → List ℕ → Type 0
Rises low [] = ⊤
Rises low (x ∷ xs) = (low ≤ x) × Rises (suc x) xs

climbs_lower : (low high : ℕ) (xs : List ℕ) → low ≤ high → Climbs high xs → Climbs low xs
climbs_lower low high [] below up = tt
climbs_lower low high (x ∷ xs) below up = (omega (arith, below, up.0), up.1)

climbs_from : (low : ℕ) (xs : List ℕ) → ((d : ℕ) → 0 < length xs → low ≤ get_or xs 0 d) → IsNonDecreasing xs → Climbs low xs
climbs_from low [] first sorted = tt
climbs_from low (x ∷ xs) first sorted = (
  first 0 (omega arith),
  climbs_from x xs (λ d some. sorted 0 1 d (omega arith) (omega (arith, some)))
      (λ i j d le less. sorted (suc i) (suc j) d (omega (arith, le)) (omega (arith, less))),
)

-- behind the last entry of a day all are later
later : (day : ℕ) (rest : List ℕ) → is_last_of day rest ≡ true → Climbs day rest → Climbs (suc day) rest
later day [] last up = tt
later day (next ∷ rest) last up =
    elim (cases_eq next day) [
      | inl same ↦ absurd (true≢false (sym last ∙ ap not (eq-eqb next day same)))
      | inr other ↦ (omega (arith, up.0, other), up.1)
    ]

distinct_rises : (low : ℕ) (xs : List ℕ) → Climbs low xs → Rises low (distinct xs)
distinct_rises low [] up = tt
distinct_rises low (day ∷ rest) up =
    elim (cases_Bool (is_last_of day rest)) [
      | inl last ↦ rw last (up.0, distinct_rises (suc day) rest (later day rest last up.1))
      | inr more ↦ rw more (distinct_rises low rest (climbs_lower low day rest up.0 up.1))
    ]

rises_strictly : (low : ℕ) (xs : List ℕ) → Rises low xs → IsStrictlyIncreasing xs
rises_strictly low [] up k less = absurd (omega (arith, less))
rises_strictly low (x ∷ []) up k less = absurd (omega (arith, less))
rises_strictly low (x ∷ y ∷ xs) up zero less = up.1.0
rises_strictly low (x ∷ y ∷ xs) up (suc k) less =
    let next : suc (k + 1) ≡ suc k + 1 = omega arith in
    subst (λ n. slice_index (x ∷ y ∷ xs) (suc k) < slice_index (x ∷ y ∷ xs) n) next
    (rises_strictly (suc x) (y ∷ xs) up.1 k (omega (arith, less)))

-- ---- how many there are

step : (x day : ℕ) (rest : List ℕ) → trips_on (x ∷ rest) day ≡ (if x == day then 1 else 0) + trips_on rest day
step x day rest = sum_by-cons (λ d. if d == day then 1 else 0) x rest

plus_none : (a b : ℕ) → a ≡ 0 + b → a ≡ b
plus_none a b is = omega (arith, is)

some_more : (n : ℕ) → 1 ≤ 1 + n
some_more n = omega arith

here : (x day : ℕ) (rest : List ℕ) → (x == day) ≡ true → trips_on (x ∷ rest) day ≡ 1 + trips_on rest day
here x day rest is = step x day rest ∙ ap (λ b. (if b then 1 else 0) + trips_on rest day) is

elsewhere : (x day : ℕ) (rest : List ℕ) → (x == day) ≡ false → trips_on (x ∷ rest) day ≡ trips_on rest day
elsewhere x day rest is =
    plus_none (trips_on (x ∷ rest) day) (trips_on rest day) (step x day rest ∙ ap (λ b. (if b then 1 else 0) + trips_on rest day) is)

has_one : (x day : ℕ) (rest : List ℕ) → (x == day) ≡ true → 1 ≤ trips_on (x ∷ rest) day
has_one x day rest is = subst (λ n. 1 ≤ n) (sym (here x day rest is)) (some_more (trips_on rest day))

none_below : (day : ℕ) (xs : List ℕ) → Climbs (suc day) xs → trips_on xs day ≡ 0
none_below day [] up = refl
none_below day (x ∷ xs) up =
    elim (cases_Bool (x == day)) [
      | inl same ↦ (let e = eqb-true x day same in absurd (omega (arith, e, up.0)))
      | inr other ↦ elsewhere x day xs other ∙ none_below day xs (climbs_lower (suc day) x xs up.0 up.1)
    ]

counted_more : (x day : ℕ) (rest : List ℕ) → 1 ≤ trips_on rest day → 1 ≤ trips_on (x ∷ rest) day
counted_more x day rest some =
    elim (cases_Bool (x == day)) [
      | inl same ↦ has_one x day rest same
      | inr other ↦ subst (λ n. 1 ≤ n) (sym (elsewhere x day rest other)) some
    ]

goes_on : (day : ℕ) (rest : List ℕ) → is_last_of day rest ≡ false → 1 ≤ trips_on rest day
goes_on day [] more = absurd (true≢false more)
goes_on day (next ∷ rest) more =
    elim (cases_Bool (next == day)) [
      | inl same ↦ has_one next day rest same
      | inr other ↦ absurd (true≢false (sym (ap not other) ∙ more))
    ]

first_or_later : (x day : ℕ) (xs : List ℕ) → Contains (x ∷ xs) day → (x ≡ day) ⊎ Contains xs day
first_or_later x day xs (zero, less, is) = inl is
first_or_later x day xs (suc k, less, is) = inr (k, omega (arith, less), is)

behind : (x day : ℕ) (xs : List ℕ) → Contains xs day → Contains (x ∷ xs) day
behind x day xs c = (suc c.0, omega (arith, c.1), c.2)

has_trips : (day : ℕ) (xs : List ℕ) → Contains (distinct xs) day → 1 ≤ trips_on xs day
has_trips day [] c = absurd (omega (arith, c.1))
has_trips day (x ∷ rest) c =
    elim (cases_Bool (is_last_of x rest)) [
      | inl last ↦ (let inside : Contains (x ∷ distinct rest) day = rw last at c in
          elim (first_or_later x day (distinct rest) inside) [
            | inl same ↦ has_one x day rest (eq-eqb x day same)
            | inr more ↦ counted_more x day rest (has_trips day rest more)
          ])
      | inr more ↦ (let inside : Contains (distinct rest) day = rw more at c in counted_more x day rest (has_trips day rest inside))
    ]

listed : (day : ℕ) (xs : List ℕ) → 1 ≤ trips_on xs day → Contains (distinct xs) day
listed day [] some = absurd (omega (arith, some))
listed day (x ∷ rest) some =
    elim (cases_Bool (x == day)) [
      | inl same ↦ (let is : x ≡ day = eqb-true x day same in
          elim (cases_Bool (is_last_of x rest)) [
            | inl last ↦ rw last (0, omega arith, is)
            | inr more ↦ rw more (listed day rest (subst (λ d. 1 ≤ trips_on rest d) is (goes_on x rest more)))
          ])
      | inr other ↦ (let there : Contains (distinct rest) day = listed day rest (subst (λ n. 1 ≤ n) (elsewhere x day rest other) some) in
          elim (cases_Bool (is_last_of x rest)) [
            | inl last ↦ rw last (behind x day (distinct rest) there)
            | inr more ↦ rw more there
          ])
    ]

-- ---- a line for each

same_lines : (f g : ℕ → List ℕ) (low : ℕ) (days : List ℕ) → Rises low days → ((day : ℕ) → low ≤ day → f day ≡ g day)
    → flat_map f days ≡ flat_map g days
same_lines f g low [] up same = refl
same_lines f g low (day ∷ days) up same =
    ap (λ line. line ++ flat_map f days) (same day up.0)
    ∙ ap (λ rest. g day ++ rest) (same_lines f g (suc day) days up.1 (λ d high. same d (omega (arith, up.0, high))))

every_line : (f g : ℕ → List ℕ) (days : List ℕ) → ((day : ℕ) → f day ≡ g day) → flat_map f days ≡ flat_map g days
every_line f g [] same = refl
every_line f g (day ∷ days) same =
    ap (λ line. line ++ flat_map f days) (same day) ∙ ap (λ rest. g day ++ rest) (every_line f g days same)

-- the entries of a list, and those of its first day that were counted before
abbrev pub with_counted : ℕ → List ℕ → ℕ → ℕ
with_counted counted [] day = 0
with_counted counted (x ∷ rest) day = trips_on (x ∷ rest) day + (if x == day then counted else 0)

none_added : (b : Bool) (n : ℕ) → n + (if b then 0 else 0) ≡ n
none_added true n = omega arith
none_added false n = omega arith

with_none : (xs : List ℕ) (day : ℕ) → with_counted 0 xs day ≡ trips_on xs day
with_none [] day = refl
with_none (x ∷ rest) day = none_added (x == day) (trips_on (x ∷ rest) day)

all_added : (b : Bool) (n more : ℕ) → n ≡ 1 → b ≡ true → n + (if b then more else 0) ≡ more + 1
all_added true n more one is = omega (arith, one)
all_added false n more one is = absurd (true≢false (sym is))

with_all : (more day : ℕ) (rest : List ℕ) → Climbs (suc day) rest → with_counted more (day ∷ rest) day ≡ more + 1
with_all more day rest up =
    let same = eq-eqb day day refl in
    all_added (day == day) (trips_on (day ∷ rest) day) more
    (here day day rest same ∙ ap (λ n. 1 + n) (none_below day rest up)) same

others_kept : (b : Bool) (n m more : ℕ) → m ≡ n → b ≡ false → n ≡ m + (if b then more else 0)
others_kept true n m more same is = absurd (true≢false is)
others_kept false n m more same is = omega (arith, same)

differ : (day other : ℕ) → suc day ≤ other → (day == other) ≡ false
differ day other high =
    elim (cases_Bool (day == other)) [
      | inl same ↦ (let e = eqb-true day other same in absurd (omega (arith, e, high)))
      | inr apart ↦ apart
    ]

with_others : (more day other : ℕ) (rest : List ℕ) → suc day ≤ other
    → with_counted 0 rest other ≡ with_counted more (day ∷ rest) other
with_others more day other rest high =
    let apart = differ day other high in
    with_none rest other
    ∙ others_kept (day == other) (trips_on rest other) (trips_on (day ∷ rest) other) more (elsewhere day other rest apart) apart

one_moved : (b : Bool) (n m more : ℕ) → m ≡ (if b then 1 else 0) + n
    → n + (if b then more + 1 else 0) ≡ m + (if b then more else 0)
one_moved true n m more is = omega (arith, is)
one_moved false n m more is = omega (arith, is)

moved_on : (more day any : ℕ) (rest : List ℕ)
    → with_counted (more + 1) (day ∷ rest) any ≡ with_counted more (day ∷ day ∷ rest) any
moved_on more day any rest =
    one_moved (day == any) (trips_on (day ∷ rest) any) (trips_on (day ∷ day ∷ rest) any) more (step day any (day ∷ rest))

with_one_more : (counted day any : ℕ) (rest : List ℕ) → is_last_of day rest ≡ false
    → with_counted (counted + 1) rest any ≡ with_counted counted (day ∷ rest) any
with_one_more counted day any [] more = absurd (true≢false more)
with_one_more counted day any (next ∷ rest) more =
    elim (cases_Bool (next == day)) [
      | inl same ↦ (let e : next ≡ day = eqb-true next day same in
          subst (λ d. with_counted (counted + 1) (d ∷ rest) any ≡ with_counted counted (day ∷ d ∷ rest) any) (sym e) (moved_on counted day any rest))
      | inr other ↦ absurd (true≢false (sym (ap not other) ∙ more))
    ]

grouped : (form : Form) (counted low : ℕ) (xs : List ℕ) → Climbs low xs
    → rest_text form counted xs ≡ flat_map (λ day. day_text form (with_counted counted xs day) day) (distinct xs)
unfolding rest_text
grouped form counted low [] up = refl
grouped form counted low (day ∷ rest) up =
    elim (cases_Bool (is_last_of day rest)) [
      | inl last ↦ (let after = later day rest last up.1 in
          let others = same_lines (λ d. day_text form (with_counted 0 rest d) d) (λ d. day_text form (with_counted counted (day ∷ rest) d) d)
          (suc day) (distinct rest) (distinct_rises (suc day) rest after) (λ d high. ap (λ n. day_text form n d) (with_others counted day d rest high)) in
          let own = sym (with_all counted day rest after) in
          rw last (ap (λ n. day_text form n day ++ rest_text form 0 rest) own
          ∙ ap (λ text. day_text form (with_counted counted (day ∷ rest) day) day ++ text) (grouped form 0 (suc day) rest after ∙ others)))
      | inr more ↦ (let same = same_lines (λ d. day_text form (with_counted (counted + 1) rest d) d)
          (λ d. day_text form (with_counted counted (day ∷ rest) d) d) day (distinct rest) (distinct_rises day rest up.1)
          (λ d high. ap (λ n. day_text form n d) (with_one_more counted day d rest more)) in
          rw more (grouped form (counted + 1) day rest up.1 ∙ same))
    ]

-- of days in order each has its line
pub has_days : (form : Form) (xs text : List ℕ) → IsNonDecreasing xs → text ≡ rest_text form 0 xs → HasDays form xs text
has_days form xs text sorted is =
    let up : Climbs 0 xs = climbs_from 0 xs (λ d some. omega arith) sorted in
    let rising = distinct_rises 0 xs up in (
      distinct xs,
      record {
        rising = rises_strictly 0 (distinct xs) rising;
        exact = λ day. (has_trips day xs, listed day xs);
      },
      is ∙ grouped form 0 0 xs up ∙ same_lines (λ d. day_text form (with_counted 0 xs d) d) (λ d. day_text form (trips_on xs d) d) 0 (distinct xs) rising
          (λ d high. ap (λ n. day_text form n d) (with_none xs d)),
    )

-- and so of days in any order
pub in_any_order : (form : Form) (xs sorted text : List ℕ) → IsPermutation xs sorted → HasDays form sorted text → HasDays form xs text
in_any_order form xs sorted text same has =
    let alike : (day : ℕ) → trips_on sorted day ≡ trips_on xs day = λ day. sum_by-IsPermutation _ xs sorted same in (
      has.0,
      record {
        rising = has.1.rising;
        exact = λ day. subst (λ n. Contains has.0 day ↔ (1 ≤ n)) (alike day) (has.1.exact day);
      },
      has.2 ∙ every_line (λ day. day_text form (trips_on sorted day) day) (λ day. day_text form (trips_on xs day) day) has.0
          (λ day. ap (λ n. day_text form n day) (alike day)),
    )
