-- A journey that is read from a text has that text, and a journey is read from its text.
use Rattle.std.proofs.Common.{◌≡◌, ◌≢◌, ◌⊎◌, ℕ, zero, suc, ◌^◌, ◌<◌, ◌≤◌, Bool, true, false, not, ◌&&◌, eqb, ltb, cond, List, [], ◌∷◌, ◌++◌, length}
use Rattle.std.proofs.Common.{get_or, take, drop, codes, Option, Some, None, refl, sym, ap, subst, ◌∙◌, append_assoc, arith, inl, inr, rules}
use Rattle.std.specs.Prelude.{decimal, IfSome, IfOk, MatchResult, Result, Ok, Err}
use Rattle.journeys.specs.declared.text_fault.TextFault.{TextFault}
use Rattle.journeys.specs.declared.text_fault.TextFault.TheVariants as faults
use Rattle.std.specs.Char.{is_ascii_digit}
use Rattle.std.specs.Str.{all_ascii_digits}
use Rattle.std.specs.List.{list_all, prefix_len, flat_map, AllByRecursion}
use Rattle.std.proofs.Math.Seq.{take-append_seam, drop-append_seam}
use Rattle.std.proofs.lemmas.List.{take-append-drop, length-append, nil_from_length}
use Rattle.std.proofs.lemmas.List.Folds.{prefix_len-append}
use Rattle.std.proofs.lemmas.Bool.{cases_Bool, cases_eq, eq-eqb, ne_eqb, eqb-true, cond-true, cond-false, ltb-true, and_parts, and_right}
use Rattle.std.proofs.lemmas.Option.{same_Some, cond_some}
use Rattle.std.proofs.lemmas.Str.Parse.{IsNumeralModel, numerals_by_fold}
use Rattle.std.proofs.lemmas.Fmt.{digits_decimal, digits_value-decimal, decimal-digits_value, decimal_nonempty, first_decimal, decimal_digit}
use Rattle.reasoning.proofs.OptionLemmas.{some_where}
use Rattle.timetable.specs.declared.network.Footpath.{Footpath}
use Rattle.timetable.specs.declared.journey.Leg.{Leg}
use Rattle.timetable.specs.JourneyValue.{RideValue, JourneyValue}
use Rattle.journeys.specs.Texts.{number_text, footpath_text, walk_text, leg_text, ride_text, start_text, text_of, IsFootpathOfWords, IsRideOfWords, HasText}
use Rattle.journeys.specs.Reading.{◌>>=◌, Gives, read_on, value_of, number_of_digits, number_at, field_at, footpath_at, leg_at, after, if_after}
use Rattle.journeys.specs.Reading.{walks_at, ride_at_front, rides_at, start_at, journey_at}
use Rattle.journeys.proofs.NumberLemmas.{value_of-small, front_passes}
use Rattle.journeys.proofs.ReadLemmas.{after-again, after-split}

own : IsNumeralModel (λ ds. all_ascii_digits ds ≡ true) (read_on 0)
own = numerals_by_fold _ (search rules) read_on (search rules)

digits_all : (ds : List ℕ) → list_all is_ascii_digit ds ≡ all_ascii_digits ds
digits_all [] = refl
digits_all (d ∷ ds) = ap (λ (b : Bool). is_ascii_digit d && b) (digits_all ds)

-- digits with a number, and no leading zero
record IsNumber (ds : List ℕ) (n : ℕ) : Type 0 where
  pub some : 0 < length ds
  pub alone : get_or ds 0 0 ≡ 48 → length ds ≡ 1
  pub is : read_on 0 ds ≡ n
  pub small : n < 2 ^ 32

number_of_digits-is : (ds : List ℕ) (n : ℕ) → IsNumber ds n → number_of_digits ds ≡ Some n
unfolding number_of_digits
number_of_digits-is [] n x = absurd (omega (arith, x.some))
number_of_digits-is (d ∷ ds) n x = cond-false (eqb d 48 && not (eqb (length ds) 0)) None (value_of (d ∷ ds)) leading ∙ value_of-small (d ∷ ds) n x.is x.small
  where
    leading : (eqb d 48 && not (eqb (length ds) 0)) ≡ false
    leading = elim (cases_eq d 48) [
      | inl zero_first ↦ (let one = x.alone zero_first in and_right _ _ (ap not (eq-eqb (length ds) 0 (omega (arith, one)))))
      | inr other ↦ ap (λ (b : Bool). b && not (eqb (length ds) 0)) (ne_eqb d 48 other)
    ]

when_none : {X : Type 0} (b : Bool) (o : Option X) (x : X) → cond b None o ≡ Some x → (b ≡ false) × (o ≡ Some x)
when_none true o x e = absurd cc
when_none false o x e = (refl, e)

number_of_digits-parts : (ds : List ℕ) (n : ℕ) → number_of_digits ds ≡ Some n → IsNumber ds n
unfolding number_of_digits
number_of_digits-parts [] n e = absurd cc
number_of_digits-parts (d ∷ ds) n e =
    let a = when_none (eqb d 48 && not (eqb (length ds) 0)) (value_of (d ∷ ds)) n e in
    let b = cond_some (ltb (read_on 0 (d ∷ ds)) (2 ^ 32)) (read_on 0 (d ∷ ds)) n a.1 in
    let low = ltb-true (read_on 0 (d ∷ ds)) (2 ^ 32) b.0 in
    record { some = omega arith; alone = λ zero_first. alone zero_first a.0; is = b.1; small = omega (arith, low, b.1) }
  where
    alone : d ≡ 48 → (eqb d 48 && not (eqb (length ds) 0)) ≡ false → length (d ∷ ds) ≡ 1
    alone zero_first test = elim (cases_Bool (eqb (length ds) 0)) [
      | inl none ↦ (let k = eqb-true (length ds) 0 none in omega (arith, k))
      | inr more ↦ absurd (let kept : (true && not false) ≡ false = (λ i. sym (eq-eqb d 48 zero_first) i && not (sym more i)) ∙ test in cc)
    ]

-- no digit stands in front
abbrev pub NoDigit : List ℕ → Type 0
NoDigit bytes = prefix_len is_ascii_digit bytes ≡ 0

all_pass : (p : ℕ → Bool) (ds : List ℕ) → list_all p ds ≡ true → prefix_len p ds ≡ length ds
all_pass p [] e = refl
all_pass p (d ∷ ds) e =
    let parts = and_parts (p d) (list_all p ds) e in
    let rest = all_pass p ds parts.1 in
    cond-true (p d) _ _ parts.0 ∙ omega (arith, rest)

front_len : (p : ℕ → Bool) (ds rest : List ℕ) → list_all p ds ≡ true → prefix_len p rest ≡ 0 → prefix_len p (ds ++ rest) ≡ length ds
front_len p ds rest all none =
    prefix_len-append p ds rest ∙ cond-true (eqb (prefix_len p ds) (length ds)) _ _ (eq-eqb _ _ (all_pass p ds all)) ∙ omega (arith, none)

pub number_at-again : (n : ℕ) (rest : List ℕ) → n < 2 ^ 32 → NoDigit rest → number_at (decimal n ++ rest) ≡ Some (n, rest)
unfolding number_at
number_at-again n rest small none =
    let wide : n < 2 ^ 64 = omega arith in
    let ds = decimal n in
    let all = digits_all ds ∙ digits_decimal own n wide in
    let len = front_len is_ascii_digit ds rest all none in
    let front : take (prefix_len is_ascii_digit (ds ++ rest)) (ds ++ rest) ≡ ds = ap (λ (k : ℕ). take k (ds ++ rest)) len ∙ take-append_seam ds rest in
    let back : drop (prefix_len is_ascii_digit (ds ++ rest)) (ds ++ rest) ≡ rest = ap (λ (k : ℕ). drop k (ds ++ rest)) len ∙ drop-append_seam ds rest in
    let number : number_of_digits ds ≡ Some n = number_of_digits-is ds n
    (record { some = decimal_nonempty n wide; alone = alone n wide; is = digits_value-decimal own n wide; small = small }) in
    ap (λ (xs : List ℕ). number_of_digits xs >>= λ m. Some (m, drop (prefix_len is_ascii_digit (ds ++ rest)) (ds ++ rest))) front
    ∙ ap (λ (o : Option ℕ). o >>= λ m. Some (m, drop (prefix_len is_ascii_digit (ds ++ rest)) (ds ++ rest))) number
    ∙ ap (λ (xs : List ℕ). Some (n, xs)) back
  where
    alone : (n : ℕ) → n < 2 ^ 64 → get_or (decimal n) 0 0 ≡ 48 → length (decimal n) ≡ 1
    alone n wide first = elim (cases_eq n 0) [
      | inl none ↦ ap (λ (m : ℕ). length (decimal m)) none ∙ ap length (decimal_digit 0 (omega arith))
      | inr other ↦ (let high = first_decimal n (omega (arith, other)) wide in absurd (omega (arith, high, first)))
    ]

bind_some : {A B : Type 0} (o : Option A) (f : A → Option B) (y : B) → (o >>= f) ≡ Some y → (x : A) × (o ≡ Some x) × (f x ≡ Some y)
bind_some (Some x) f y e = (x, refl, e)
bind_some None f y e = absurd cc

pub number_at-takes : (bytes : List ℕ) (n : ℕ) (rest : List ℕ) → number_at bytes ≡ Some (n, rest) → (bytes ≡ decimal n ++ rest) × (n < 2 ^ 32)
unfolding number_at
number_at-takes bytes n rest e =
    let k = prefix_len is_ascii_digit bytes in
    let b = bind_some (number_of_digits (take k bytes)) (λ m. Some (m, drop k bytes)) (n, rest) e in
    let same : b.0 ≡ n = ap (λ (x : ℕ × List ℕ). x.0) (same_Some _ _ b.2) in
    let back : drop k bytes ≡ rest = ap (λ (x : ℕ × List ℕ). x.1) (same_Some _ _ b.2) in
    let number = number_of_digits-parts (take k bytes) b.0 b.1 in
    let all = sym (digits_all (take k bytes)) ∙ front_passes is_ascii_digit bytes k refl in
    let value = decimal-digits_value own (take k bytes) all number.some number.alone (omega (arith, number.is, number.small)) in
    let front : decimal n ≡ take k bytes = ap decimal (sym same ∙ sym number.is) ∙ value in (
      sym (take-append-drop k bytes) ∙ ap (λ (xs : List ℕ). xs ++ drop k bytes) (sym front)
          ∙ ap (λ (xs : List ℕ). decimal n ++ xs) back,
      omega (arith, number.small, same),
    )

field_at-again : (n : ℕ) (rest : List ℕ) → n < 2 ^ 32 → NoDigit rest → field_at (number_text n ++ rest) ≡ Some (n, rest)
unfolding field_at
field_at-again n rest small none = number_at-again n rest small none

field_at-takes : (bytes : List ℕ) (n : ℕ) (rest : List ℕ) → field_at bytes ≡ Some (n, rest) → (bytes ≡ number_text n ++ rest) × (n < 2 ^ 32)
unfolding field_at
field_at-takes [] n rest e = absurd cc
field_at-takes (b ∷ bytes) n rest e =
    let parts = some_where (eqb b 32) (number_at bytes) (n, rest) e in
    let space : b ≡ 32 = eqb-true b 32 parts.0 in
    let number = number_at-takes bytes n rest parts.1 in
    (λ i. space i ∷ number.0 i, number.1)

regroup_three : (a b d rest : List ℕ) → (a ++ (b ++ d)) ++ rest ≡ a ++ (b ++ (d ++ rest))
regroup_three a b d rest = append_assoc a (b ++ d) rest ∙ ap (λ (xs : List ℕ). a ++ xs) (append_assoc b d rest)

footpath_at-steps : (bytes b d rest : List ℕ) (x y z : ℕ) → field_at bytes ≡ Some (x, b) → field_at b ≡ Some (y, d) → field_at d ≡ Some (z, rest)
    → footpath_at bytes ≡ Some (record { from = x; to = y; secs = z }, rest)
unfolding footpath_at
footpath_at-steps bytes b d rest x y z e f g = rw (e, f, g) refl

footpath_at-again : (f : Footpath) (rest : List ℕ) → IsFootpathOfWords f → NoDigit rest → footpath_at (footpath_text f ++ rest) ≡ Some (f, rest)
footpath_at-again f rest fits none =
    let last = number_text f.secs ++ rest in
    let middle = number_text f.to ++ last in
    ap footpath_at (regroup_three (number_text f.from) (number_text f.to) (number_text f.secs) rest)
    ∙ footpath_at-steps (number_text f.from ++ middle) middle last rest f.from f.to f.secs (field_at-again f.from middle fits.0 refl)
    (field_at-again f.to last fits.1 refl) (field_at-again f.secs rest fits.2 none)

footpath_at-takes : (bytes : List ℕ) (f : Footpath) (rest : List ℕ) → footpath_at bytes ≡ Some (f, rest)
    → (bytes ≡ footpath_text f ++ rest) × IsFootpathOfWords f
unfolding footpath_at
footpath_at-takes bytes f rest e =
    let a = bind_some (field_at bytes) (λ x. field_at x.1 >>= λ y. field_at y.1 >>= λ z. Some (record { from = x.0; to = y.0; secs = z.0 }, z.1)) (f, rest) e in
    let b = bind_some (field_at a.0.1) (λ y. field_at y.1 >>= λ z. Some (record { from = a.0.0; to = y.0; secs = z.0 }, z.1)) (f, rest) a.2 in
    let d = bind_some (field_at b.0.1) (λ z. Some (record { from = a.0.0; to = b.0.0; secs = z.0 }, z.1)) (f, rest) b.2 in
    let first = field_at-takes bytes a.0.0 a.0.1 a.1 in
    let second = field_at-takes a.0.1 b.0.0 b.0.1 b.1 in
    let third = field_at-takes b.0.1 d.0.0 d.0.1 d.1 in
    let P : Footpath × List ℕ → Type 0 = λ x. (bytes ≡ footpath_text x.0 ++ x.1) × IsFootpathOfWords x.0 in
    let all = first.0 ∙ ap (λ (xs : List ℕ). number_text a.0.0 ++ xs) (second.0 ∙ ap (λ (xs : List ℕ). number_text b.0.0 ++ xs) third.0)
    ∙ sym (regroup_three (number_text a.0.0) (number_text b.0.0) (number_text d.0.0) d.0.1) in
    subst P (same_Some _ _ d.2) (all, (first.1, second.1, third.1))

leg_at-steps : (bytes b rest : List ℕ) (x y : ℕ) → field_at bytes ≡ Some (x, b) → field_at b ≡ Some (y, rest)
    → leg_at bytes ≡ Some (record { first = x; last = y }, rest)
unfolding leg_at
leg_at-steps bytes b rest x y e f = rw (e, f) refl

leg_at-again : (leg : Leg) (rest : List ℕ) → leg.first < 2 ^ 32 → leg.last < 2 ^ 32 → NoDigit rest → leg_at (leg_text leg ++ rest) ≡ Some (leg, rest)
leg_at-again leg rest first last none =
    let second = number_text leg.last ++ rest in
    ap leg_at (append_assoc (number_text leg.first) (number_text leg.last) rest)
    ∙ leg_at-steps (number_text leg.first ++ second) second rest leg.first leg.last (field_at-again leg.first second first refl)
    (field_at-again leg.last rest last none)

leg_at-takes : (bytes : List ℕ) (leg : Leg) (rest : List ℕ) → leg_at bytes ≡ Some (leg, rest)
    → (bytes ≡ leg_text leg ++ rest) × (leg.first < 2 ^ 32) × (leg.last < 2 ^ 32)
unfolding leg_at
leg_at-takes bytes leg rest e =
    let a = bind_some (field_at bytes) (λ x. field_at x.1 >>= λ y. Some (record { first = x.0; last = y.0 }, y.1)) (leg, rest) e in
    let b = bind_some (field_at a.0.1) (λ y. Some (record { first = a.0.0; last = y.0 }, y.1)) (leg, rest) a.2 in
    let first = field_at-takes bytes a.0.0 a.0.1 a.1 in
    let second = field_at-takes a.0.1 b.0.0 b.0.1 b.1 in
    let P : Leg × List ℕ → Type 0 = λ x. (bytes ≡ leg_text x.0 ++ x.1) × (x.0.first < 2 ^ 32) × (x.0.last < 2 ^ 32) in
    let all = first.0 ∙ ap (λ (xs : List ℕ). number_text a.0.0 ++ xs) second.0 ∙ sym (append_assoc (number_text a.0.0) (number_text b.0.0) b.0.1) in
    subst P (same_Some _ _ b.2) (all, first.1, second.1)

walks_at-step : (n : ℕ) (bytes numbers behind last : List ℕ) (f : Footpath) (fs : List Footpath) → after (codes " walk") bytes ≡ Some numbers
    → footpath_at numbers ≡ Some (f, behind) → walks_at n behind ≡ Some (fs, last) → walks_at (suc n) bytes ≡ Some (f ∷ fs, last)
unfolding walks_at
walks_at-step n bytes numbers behind last f fs word read others = rw (word, read, others) refl

no_digit_walks : (fs : List Footpath) (rest : List ℕ) → NoDigit rest → NoDigit (flat_map walk_text fs ++ rest)
no_digit_walks [] rest none = none
no_digit_walks (f ∷ fs) rest none = refl

walks_at-again : (fs : List Footpath) (rest : List ℕ) (n : ℕ) → length fs ≤ n → AllByRecursion IsFootpathOfWords fs → NoDigit rest
    → after (codes " walk") rest ≡ None → walks_at n (flat_map walk_text fs ++ rest) ≡ Some (fs, rest)
unfolding walks_at
walks_at-again [] rest zero le fits none stop = refl
walks_at-again [] rest (suc n) le fits none stop = rw stop refl
walks_at-again (f ∷ fs) rest zero le fits none stop = absurd (omega (arith, le))
walks_at-again (f ∷ fs) rest (suc n) le fits none stop =
    let behind = flat_map walk_text fs ++ rest in
    let numbers = footpath_text f ++ behind in
    let whole : flat_map walk_text (f ∷ fs) ++ rest ≡ codes " walk" ++ numbers = ap (λ (xs : List ℕ). codes " walk" ++ xs)
    (append_assoc (footpath_text f) (flat_map walk_text fs) rest) in
    ap (walks_at (suc n)) whole
    ∙ walks_at-step n (codes " walk" ++ numbers) numbers behind rest f fs (after-again (codes " walk") numbers)
    (footpath_at-again f behind fits.0 (no_digit_walks fs rest none)) (walks_at-again fs rest n (omega (arith, le)) fits.1 none stop)

abbrev AreWalksOf : List ℕ → List Footpath × List ℕ → Type 0
AreWalksOf bytes x = (bytes ≡ flat_map walk_text x.0 ++ x.1) × AllByRecursion IsFootpathOfWords x.0

walks_at-takes : (n : ℕ) (bytes : List ℕ) (x : List Footpath × List ℕ) → walks_at n bytes ≡ Some x → AreWalksOf bytes x
unfolding walks_at
walks_at-takes zero bytes x e = subst (AreWalksOf bytes) (same_Some _ _ e) (refl, tt)
walks_at-takes (suc n) bytes x e = go (λ b y h. walks_at-takes n b y h) (after (codes " walk") bytes) refl e
  where
    go : ((b : List ℕ) (y : List Footpath × List ℕ) → walks_at n b ≡ Some y → AreWalksOf b y) → (o : Option (List ℕ)) → after (codes " walk") bytes ≡ o
        → if_after o (λ rest. footpath_at rest >>= λ f. walks_at n f.1 >>= λ fs. Some (f.0 ∷ fs.0, fs.1)) (Some ([], bytes)) ≡ Some x → AreWalksOf bytes x
    go later None word e = subst (AreWalksOf bytes) (same_Some _ _ e) (refl, tt)
    go later (Some rest) word e =
        let a = bind_some (footpath_at rest) (λ f. walks_at n f.1 >>= λ fs. Some (f.0 ∷ fs.0, fs.1)) x e in
        let b = bind_some (walks_at n a.0.1) (λ fs. Some (a.0.0 ∷ fs.0, fs.1)) x a.2 in
        let front = after-split (codes " walk") bytes rest word in
        let one = footpath_at-takes rest a.0.0 a.0.1 a.1 in
        let others = later a.0.1 b.0 b.1 in
        let all = front ∙ ap (λ (xs : List ℕ). codes " walk" ++ xs)
        (one.0 ∙ ap (λ (xs : List ℕ). footpath_text a.0.0 ++ xs) others.0 ∙ sym (append_assoc (footpath_text a.0.0) (flat_map walk_text b.0.0) b.0.1)) in
        subst (AreWalksOf bytes) (same_Some _ _ b.2) (all, (one.1, others.1))

-- a ride behind its word
abbrev body_text : RideValue → List ℕ
body_text r = leg_text r.leg ++ flat_map walk_text r.walk

length_walks : (fs : List Footpath) (rest : List ℕ) → length fs ≤ length (flat_map walk_text fs ++ rest)
length_walks [] rest = omega arith
length_walks (f ∷ fs) rest =
    let more = length_walks fs rest in
    let all = ap length (append_assoc (footpath_text f) (flat_map walk_text fs) rest) in
    let longer = length-append (footpath_text f) (flat_map walk_text fs ++ rest) in
    omega (arith, more, all, longer)

ride_at-steps : (bytes behind rest : List ℕ) (leg : Leg) (walk : List Footpath) → leg_at bytes ≡ Some (leg, behind)
    → walks_at (length behind) behind ≡ Some (walk, rest) → ride_at_front bytes ≡ Some (record { leg = leg; walk = walk }, rest)
unfolding ride_at_front
ride_at-steps bytes behind rest leg walk e f = rw (e, f) refl

ride_at-again : (r : RideValue) (rest : List ℕ) → IsRideOfWords r → NoDigit rest → after (codes " walk") rest ≡ None
    → ride_at_front (body_text r ++ rest) ≡ Some (r, rest)
ride_at-again r rest fits none stop =
    let behind = flat_map walk_text r.walk ++ rest in
    ap ride_at_front (append_assoc (leg_text r.leg) (flat_map walk_text r.walk) rest)
    ∙ ride_at-steps (leg_text r.leg ++ behind) behind rest r.leg r.walk (leg_at-again r.leg behind fits.0 fits.1 (no_digit_walks r.walk rest none))
    (walks_at-again r.walk rest (length behind) (length_walks r.walk rest) fits.2 none stop)

abbrev IsRideOf : List ℕ → RideValue × List ℕ → Type 0
IsRideOf bytes x = (bytes ≡ body_text x.0 ++ x.1) × IsRideOfWords x.0

ride_at-takes : (bytes : List ℕ) (x : RideValue × List ℕ) → ride_at_front bytes ≡ Some x → IsRideOf bytes x
unfolding ride_at_front
ride_at-takes bytes x e =
    let a = bind_some (leg_at bytes) (λ leg. walks_at (length leg.1) leg.1 >>= λ walk. Some (record { leg = leg.0; walk = walk.0 }, walk.1)) x e in
    let b = bind_some (walks_at (length a.0.1) a.0.1) (λ walk. Some (record { leg = a.0.0; walk = walk.0 }, walk.1)) x a.2 in
    let leg = leg_at-takes bytes a.0.0 a.0.1 a.1 in
    let walks = walks_at-takes (length a.0.1) a.0.1 b.0 b.1 in
    let all = leg.0 ∙ ap (λ (xs : List ℕ). leg_text a.0.0 ++ xs) walks.0 ∙ sym (append_assoc (leg_text a.0.0) (flat_map walk_text b.0.0) b.0.1) in
    subst (IsRideOf bytes) (same_Some _ _ b.2) (all, (leg.1, leg.2, walks.1))

rides_at-last : (n : ℕ) (bytes : List ℕ) (r : RideValue) → ride_at_front bytes ≡ Some (r, []) → rides_at (suc n) bytes ≡ Some (r ∷ [])
unfolding rides_at
rides_at-last n bytes r e = rw e refl

rides_at-step : (n : ℕ) (bytes behind rest : List ℕ) (r : RideValue) (rs : List RideValue) → ride_at_front bytes ≡ Some (r, behind) → length behind ≢ 0
    → after (codes " ride") behind ≡ Some rest → rides_at n rest ≡ Some rs → rides_at (suc n) bytes ≡ Some (r ∷ rs)
unfolding rides_at
rides_at-step n bytes behind rest r rs read more word others =
    let test = ne_eqb (length behind) 0 more in
    rw (read, test, word, others) refl

-- what stands in front of a ride's word is no walk
no_walk : (rest : List ℕ) → after (codes " walk") (codes " ride" ++ rest) ≡ None
unfolding after
no_walk rest = refl

no_walk_end : after (codes " walk") [] ≡ None
unfolding after
no_walk_end = refl

rides_at-again : (r : RideValue) (rs : List RideValue) (n : ℕ) → length (r ∷ rs) ≤ n → AllByRecursion IsRideOfWords (r ∷ rs)
    → rides_at n (body_text r ++ flat_map ride_text rs) ≡ Some (r ∷ rs)
rides_at-again r rs zero le fits = absurd (omega (arith, le))
rides_at-again r [] (suc n) le fits = rides_at-last n (body_text r ++ []) r (ride_at-again r [] fits.0 refl no_walk_end)
rides_at-again r (s ∷ rs) (suc n) le fits =
    let rest = body_text s ++ flat_map ride_text rs in
    let behind = codes " ride" ++ rest in
    rides_at-step n (body_text r ++ behind) behind rest r (s ∷ rs) (ride_at-again r behind fits.0 refl (no_walk rest)) (omega arith)
    (after-again (codes " ride") rest) (rides_at-again s rs n (omega (arith, le)) fits.1)

abbrev AreRidesOf : List ℕ → List RideValue → Type 0
AreRidesOf bytes rides =
    (r : RideValue) × (rs : List RideValue) × (rides ≡ r ∷ rs) × (bytes ≡ body_text r ++ flat_map ride_text rs) × AllByRecursion IsRideOfWords (r ∷ rs)

when_not : {X : Type 0} (b : Bool) (x y : Option X) (z : X) → cond b x y ≡ Some z → ((b ≡ true) × (x ≡ Some z)) ⊎ ((b ≡ false) × (y ≡ Some z))
when_not true x y z e = inl (refl, e)
when_not false x y z e = inr (refl, e)

rides_at-takes : (n : ℕ) (bytes : List ℕ) (rides : List RideValue) → rides_at n bytes ≡ Some rides → AreRidesOf bytes rides
unfolding rides_at
rides_at-takes zero bytes rides e = absurd cc
rides_at-takes (suc n) bytes rides e =
    let a = bind_some (ride_at_front bytes) (λ r. cond (eqb (length r.1) 0) (Some (r.0 ∷ []))
    (after (codes " ride") r.1 >>= λ rest. rides_at n rest >>= λ rides. Some (r.0 ∷ rides))) rides e in
    let one = ride_at-takes bytes a.0 a.1 in
    elim (when_not (eqb (length a.0.1) 0) (Some (a.0.0 ∷ []))
    (after (codes " ride") a.0.1 >>= λ rest. rides_at n rest >>= λ rides. Some (a.0.0 ∷ rides)) rides a.2) [
      | inl last ↦ (let none = nil_from_length a.0.1 (eqb-true (length a.0.1) 0 last.0) in
          (a.0.0, [], sym (same_Some _ _ last.1), one.0 ∙ ap (λ (xs : List ℕ). body_text a.0.0 ++ xs) none, (one.1, tt)))
      | inr more ↦
          let b = bind_some (after (codes " ride") a.0.1) (λ rest. rides_at n rest >>= λ rides. Some (a.0.0 ∷ rides)) rides more.1 in
          let d = bind_some (rides_at n b.0) (λ rides. Some (a.0.0 ∷ rides)) rides b.2 in
          let word = after-split (codes " ride") a.0.1 b.0 b.1 in
          let others = rides_at-takes n b.0 d.0 d.1 in (
            a.0.0,
            others.0 ∷ others.1,
            sym (same_Some _ _ d.2) ∙ ap (λ (rs : List RideValue). a.0.0 ∷ rs) others.2,
            one.0
                ∙ ap (λ (xs : List ℕ). body_text a.0.0 ++ xs) (word ∙ ap (λ (xs : List ℕ). codes " ride" ++ xs) others.3),
            (one.1, others.4),
          )
    ]

journey_at-steps : (bytes rest : List ℕ) (start : Option Footpath) (rides : List RideValue) → start_at bytes ≡ Some (start, rest)
    → rides_at (length rest) rest ≡ Some rides → journey_at bytes ≡ Some (record { start = start; rides = rides })
unfolding journey_at
journey_at-steps bytes rest start rides e f = rw (e, f) refl

no_walk_first : (rest : List ℕ) → after (codes "walk") (codes "ride" ++ rest) ≡ None
unfolding after
no_walk_first rest = refl

start_at-none : (rest : List ℕ) → start_at (codes "ride" ++ rest) ≡ Some (None, rest)
unfolding start_at
start_at-none rest =
    let no_walk = no_walk_first rest in
    let word = after-again (codes "ride") rest in
    rw (no_walk, word) refl

start_at-steps : (bytes numbers behind rest : List ℕ) (f : Footpath) → after (codes "walk") bytes ≡ Some numbers → footpath_at numbers ≡ Some (f, behind)
    → after (codes " ride") behind ≡ Some rest → start_at bytes ≡ Some (Some f, rest)
unfolding start_at
start_at-steps bytes numbers behind rest f word read ride = rw (word, read, ride) refl

start_at-some : (f : Footpath) (rest : List ℕ) → IsFootpathOfWords f
    → start_at (codes "walk" ++ (footpath_text f ++ (codes " ride" ++ rest))) ≡ Some (Some f, rest)
start_at-some f rest fits =
    let behind = codes " ride" ++ rest in
    let numbers = footpath_text f ++ behind in
    start_at-steps (codes "walk" ++ numbers) numbers behind rest f (after-again (codes "walk") numbers) (footpath_at-again f behind fits refl)
    (after-again (codes " ride") rest)

-- the text up to the word of the first ride, and the bytes after it
abbrev IsStartOf : List ℕ → Option Footpath × List ℕ → Type 0
IsStartOf bytes x = (bytes ≡ drop 1 (start_text x.0 ++ (codes " ride" ++ x.1))) × IfSome x.0 IsFootpathOfWords

start_at-takes : (bytes : List ℕ) (x : Option Footpath × List ℕ) → start_at bytes ≡ Some x → IsStartOf bytes x
unfolding start_at
start_at-takes bytes x e = go (after (codes "walk") bytes) refl e
  where
    go : (o : Option (List ℕ)) → after (codes "walk") bytes ≡ o
        → if_after o (λ rest. footpath_at rest >>= λ f. after (codes " ride") f.1 >>= λ rides. Some (Some f.0, rides))
        (after (codes "ride") bytes >>= λ rides. Some (None, rides)) ≡ Some x → IsStartOf bytes x
    go None word e =
        let a = bind_some (after (codes "ride") bytes) (λ rides. Some (None, rides)) x e in
        subst (IsStartOf bytes) (same_Some _ _ a.2) (after-split (codes "ride") bytes a.0 a.1, tt)
    go (Some rest) word e =
        let a = bind_some (footpath_at rest) (λ f. after (codes " ride") f.1 >>= λ rides. Some (Some f.0, rides)) x e in
        let b = bind_some (after (codes " ride") a.0.1) (λ rides. Some (Some a.0.0, rides)) x a.2 in
        let walk = footpath_at-takes rest a.0.0 a.0.1 a.1 in
        let ride = after-split (codes " ride") a.0.1 b.0 b.1 in
        subst (IsStartOf bytes) (same_Some _ _ b.2) (
          after-split (codes "walk") bytes rest word
              ∙ ap (λ (xs : List ℕ). codes "walk" ++ xs) (walk.0 ∙ ap (λ (xs : List ℕ). footpath_text a.0.0 ++ xs) ride),
          walk.1,
        )

length_rides : (rs : List RideValue) → length rs ≤ length (flat_map ride_text rs)
length_rides [] = omega arith
length_rides (r ∷ rs) =
    let more = length_rides rs in
    let longer = length-append (body_text r) (flat_map ride_text rs) in
    omega (arith, more, longer)

enough : (r : RideValue) (rs : List RideValue) → length (r ∷ rs) ≤ length (body_text r ++ flat_map ride_text rs)
enough r rs =
    let more = length_rides rs in
    let longer = length-append (body_text r) (flat_map ride_text rs) in
    omega (arith, more, longer)

text_again : (start : Option Footpath) (rides : List RideValue) → HasText (record { start = start; rides = rides })
    → journey_at (text_of (record { start = start; rides = rides })) ≡ Some (record { start = start; rides = rides })
text_again start [] has = absurd (has.some refl)
text_again None (r ∷ rs) has =
    let rest = body_text r ++ flat_map ride_text rs in
    journey_at-steps (codes "ride" ++ rest) rest None (r ∷ rs) (start_at-none rest) (rides_at-again r rs (length rest) (enough r rs) has.rides)
text_again (Some f) (r ∷ rs) has =
    let rest = body_text r ++ flat_map ride_text rs in
    journey_at-steps (codes "walk" ++ (footpath_text f ++ (codes " ride" ++ rest))) rest (Some f) (r ∷ rs) (start_at-some f rest has.start)
    (rides_at-again r rs (length rest) (enough r rs) has.rides)

-- what is spelled so is read
pub journey_at-again : (j : JourneyValue) → HasText j → journey_at (text_of j) ≡ Some j
journey_at-again j has = text_again j.start j.rides has

abbrev IsTextOf : List ℕ → JourneyValue → Type 0
IsTextOf bytes j = HasText j × (bytes ≡ text_of j)

-- what is read is spelled so
pub journey_at-takes : (bytes : List ℕ) (j : JourneyValue) → journey_at bytes ≡ Some j → IsTextOf bytes j
unfolding journey_at
journey_at-takes bytes j e =
    let a = bind_some (start_at bytes) (λ start. rides_at (length start.1) start.1 >>= λ rides. Some (record { start = start.0; rides = rides })) j e in
    let b = bind_some (rides_at (length a.0.1) a.0.1) (λ rides. Some (record { start = a.0.0; rides = rides })) j a.2 in
    let start = start_at-takes bytes a.0 a.1 in
    let rides = rides_at-takes (length a.0.1) a.0.1 b.0 b.1 in
    let is : JourneyValue = record { start = a.0.0; rides = rides.0 ∷ rides.1 } in
    let same : is ≡ j = ap (λ (rs : List RideValue). record { start = a.0.0; rides = rs }) (sym rides.2) ∙ same_Some _ _ b.2 in
    let text : bytes ≡ text_of is = start.0 ∙ ap (λ (xs : List ℕ). drop 1 (start_text a.0.0 ++ (codes " ride" ++ xs))) rides.3 in
    subst (IsTextOf bytes) same (record { some = λ none. absurd cc; start = start.1; rides = rides.4 }, text)

-- no other journey has the same text
pub one_journey : (j k : JourneyValue) → HasText j → HasText k → text_of j ≡ text_of k → j ≡ k
one_journey j k has_j has_k e = same_Some j k (sym (journey_at-again j has_j) ∙ ap journey_at e ∙ journey_at-again k has_k)

pub is_found : (bytes : List ℕ) (r : Result JourneyValue TextFault) → Gives (λ j. j) r (journey_at bytes) → IfOk r (λ j. HasText j × (bytes ≡ text_of j))
is_found bytes (Ok j) gives = journey_at-takes bytes j gives
is_found bytes (Err e) gives = tt

pub is_only : (bytes : List ℕ) (r : Result JourneyValue TextFault) → Gives (λ j. j) r (journey_at bytes) → (j : JourneyValue) → HasText j → bytes ≡ text_of j
    → MatchResult r (λ k. k ≡ j) (λ e. e ≡ faults.OutOfMemory)
is_only bytes (Ok k) gives j has e = same_Some k j (sym gives ∙ ap journey_at e ∙ journey_at-again j has)
is_only bytes (Err faults.OutOfMemory) gives j has e = refl
is_only bytes (Err faults.BadText) gives j has e = absurd (let read : None ≡ Some j = sym gives ∙ ap journey_at e ∙ journey_at-again j has in cc)
