-- Searches for the first or the last index: one step of a search, and its end.
use Rattle.std.proofs.Common.{◌≡◌, ℕ, zero, suc, ◌+◌, ◌-◌, ◌<◌, ◌≤◌, Bool, true, false, cond, Option, Some, None, refl, sym, ap, ◌∙◌, arith, inl, inr}
use Rattle.std.proofs.lemmas.Bool.{cases_eq, cases_Bool, or_parts, or_cases, or_from, or_left, or_right}
use Rattle.std.proofs.lemmas.Option.{same_Some}
use Rattle.std.specs.Option.{option_or}
use Rattle.reasoning.specs.First.{first_below, last_below, any_below, any_between, first_between}

pub option_or-none : {X : Type 0} (x y : Option X) → x ≡ None → option_or x y ≡ y
option_or-none None y e = refl
option_or-none (Some x) y e = absurd cc

pub option_or-some : {X : Type 0} (x y : Option X) (v : X) → x ≡ Some v → option_or x y ≡ Some v
option_or-some None y v e = absurd cc
option_or-some (Some x) y v e = e

-- nothing is found below i, nor at i
pub first_below-more : {X : Type 0} (f : ℕ → Option X) (i : ℕ) → first_below f i ≡ None → f i ≡ None → first_below f (i + 1) ≡ None
unfolding first_below
first_below-more f i before here =
    let k : i + 1 ≡ suc i = omega arith in
    rw k (option_or-none (first_below f i) (f i) before ∙ here)

-- what is found below i is found below each greater bound
pub first_below-from : {X : Type 0} (f : ℕ → Option X) (n i : ℕ) (x : X) → i ≤ n → first_below f i ≡ Some x → first_below f n ≡ Some x
unfolding first_below
first_below-from f zero i x le e =
    let k : i ≡ zero = omega arith in
    rw k at e
first_below-from f (suc n) i x le e =
    elim (cases_eq i (suc n)) [
      | inl same ↦ rw same at e
      | inr other ↦ option_or-some (first_below f n) (f n) x (first_below-from f n i x (omega arith) e)
    ]

-- what f gives at i, where it gives nothing before, is the first below each bound above i
pub first_below-found : {X : Type 0} (f : ℕ → Option X) (n i : ℕ) (x : X) → i < n → first_below f i ≡ None → f i ≡ Some x → first_below f n ≡ Some x
unfolding first_below
first_below-found f n i x lt before here =
    first_below-from f n (suc i) x (omega arith) (option_or-none (first_below f i) (f i) before ∙ here)

-- the step on, whatever is found
pub first_below-next : {X : Type 0} (f : ℕ → Option X) (i : ℕ) → first_below f (i + 1) ≡ option_or (first_below f i) (f i)
unfolding first_below
first_below-next f i = let k : i + 1 ≡ suc i = omega arith in rw k refl

pub last_below-hit : (p : ℕ → Bool) (i : ℕ) → p i ≡ true → last_below p (i + 1) ≡ Some i
unfolding last_below
last_below-hit p i e =
    let k : i + 1 ≡ suc i = omega arith in
    rw (k, e) refl

pub last_below-miss : (p : ℕ → Bool) (i : ℕ) → p i ≡ false → last_below p (i + 1) ≡ last_below p i
unfolding last_below
last_below-miss p i e =
    let k : i + 1 ≡ suc i = omega arith in
    rw (k, e) refl

within_step : (b : Bool) (n j : ℕ) (o : Option ℕ) → (o ≡ Some j → j < n) → cond b (Some n) o ≡ Some j → j < suc n
within_step true n j o h e = let k : n ≡ j = cc in omega arith
within_step false n j o h e = let k : j < n = h e in omega arith

pub last_below-within : (p : ℕ → Bool) (n j : ℕ) → last_below p n ≡ Some j → j < n
unfolding last_below
last_below-within p zero j e = absurd cc
last_below-within p (suc n) j e = within_step (p n) n j (last_below p n) (last_below-within p n j) e

pub option_or_parts : {X : Type 0} (x y : Option X) → option_or x y ≡ None → (x ≡ None) × (y ≡ None)
option_or_parts None y e = (refl, e)
option_or_parts (Some x) y e = absurd cc

-- a test that finds no fault
pub no_fault : {X : Type 0} (b : Bool) (x : X) (y : Option X) → cond b (Some x) y ≡ None → (b ≡ false) × (y ≡ None)
no_fault true x y e = absurd cc
no_fault false x y e = (refl, e)

-- p stands nowhere before i, nor at i
pub any_below-more : (p : ℕ → Bool) (i : ℕ) → any_below p i ≡ false → p i ≡ false → any_below p (i + 1) ≡ false
unfolding any_below
any_below-more p i before here =
    let k : i + 1 ≡ suc i = omega arith in
    rw k (or_from (any_below p i) (p i) before here)

pub any_below-found : (p : ℕ → Bool) (n i : ℕ) → i < n → p i ≡ true → any_below p n ≡ true
unfolding any_below
any_below-found p zero i lt e = absurd (omega arith)
any_below-found p (suc n) i lt e =
    elim (cases_eq i n) [
      | inl same ↦ or_right (any_below p n) (p n) (rw same at e)
      | inr other ↦ or_left (any_below p n) (p n) (any_below-found p n i (omega arith) e)
    ]

pub any_between-empty : (p : ℕ → Bool) (a b : ℕ) → b ≤ a → any_between p a b ≡ false
unfolding any_between any_below
any_between-empty p a b le = let k : b - a ≡ zero = omega arith in rw k refl

pub any_between-more : (p : ℕ → Bool) (a i : ℕ) → a ≤ i → any_between p a i ≡ false → p i ≡ false → any_between p a (i + 1) ≡ false
unfolding any_between
any_between-more p a i le before here =
    let k : (i + 1) - a ≡ (i - a) + 1 = omega arith in
    let at : a + (i - a) ≡ i = omega arith in
    rw k (any_below-more (λ j. p (a + j)) (i - a) before (ap p at ∙ here))

pub any_between-found : (p : ℕ → Bool) (a b i : ℕ) → a ≤ i → i < b → p i ≡ true → any_between p a b ≡ true
unfolding any_between
any_between-found p a b i le lt here =
    let at : a + (i - a) ≡ i = omega arith in
    any_below-found (λ j. p (a + j)) (b - a) (i - a) (omega arith) (ap p at ∙ here)

pub first_between-empty : {X : Type 0} (f : ℕ → Option X) (a b : ℕ) → b ≤ a → first_between f a b ≡ None
unfolding first_between first_below
first_between-empty f a b le = let k : b - a ≡ zero = omega arith in rw k refl

pub first_between-more : {X : Type 0} (f : ℕ → Option X) (a i : ℕ) → a ≤ i → first_between f a i ≡ None → f i ≡ None → first_between f a (i + 1) ≡ None
unfolding first_between
first_between-more f a i le before here =
    let k : (i + 1) - a ≡ (i - a) + 1 = omega arith in
    let at : a + (i - a) ≡ i = omega arith in
    rw k (first_below-more (λ j. f (a + j)) (i - a) before (ap f at ∙ here))

pub first_between-found : {X : Type 0} (f : ℕ → Option X) (a b i : ℕ) (x : X) → a ≤ i → i < b → first_between f a i ≡ None → f i ≡ Some x
    → first_between f a b ≡ Some x
unfolding first_between
first_between-found f a b i x le lt before here =
    let at : a + (i - a) ≡ i = omega arith in
    first_below-found (λ j. f (a + j)) (b - a) (i - a) x (omega arith) before (ap f at ∙ here)

pub first_below-start : {X : Type 0} (f : ℕ → Option X) → first_below f 0 ≡ None
unfolding first_below
first_below-start f = refl

-- a search that looks at one index after the other
pub ruleset searches = (
  any_between-empty,
  any_between-more,
  any_between-found,
  first_between-empty,
  first_between-more,
  first_between-found,
  first_below-start,
  first_below-more,
  first_below-found,
)

-- nothing is found below n, so nothing at i
pub first_below-none : {X : Type 0} (f : ℕ → Option X) (n i : ℕ) → i < n → first_below f n ≡ None → f i ≡ None
unfolding first_below
first_below-none f zero i lt e = absurd (omega arith)
first_below-none f (suc n) i lt e =
    let parts = option_or_parts (first_below f n) (f n) e in
    elim (cases_eq i n) [
      | inl same ↦ ap f same ∙ parts.1
      | inr other ↦ first_below-none f n i (omega arith) parts.0
    ]

pub any_below-none : (p : ℕ → Bool) (n i : ℕ) → i < n → any_below p n ≡ false → p i ≡ false
unfolding any_below
any_below-none p zero i lt e = absurd (omega arith)
any_below-none p (suc n) i lt e =
    let parts = or_parts (any_below p n) (p n) e in
    elim (cases_eq i n) [
      | inl same ↦ ap p same ∙ parts.1
      | inr other ↦ any_below-none p n i (omega arith) parts.0
    ]

pub any_between-none : (p : ℕ → Bool) (a b i : ℕ) → a ≤ i → i < b → any_between p a b ≡ false → p i ≡ false
unfolding any_between
any_between-none p a b i le lt e =
    let at : i ≡ a + (i - a) = omega arith in
    ap p at ∙ any_below-none (λ j. p (a + j)) (b - a) (i - a) (omega arith) e

pub first_between-none : {X : Type 0} (f : ℕ → Option X) (a b i : ℕ) → a ≤ i → i < b → first_between f a b ≡ None → f i ≡ None
unfolding first_between
first_between-none f a b i le lt e =
    let at : i ≡ a + (i - a) = omega arith in
    ap f at ∙ first_below-none (λ j. f (a + j)) (b - a) (i - a) (omega arith) e

-- p stands somewhere below n
any_below-some : (p : ℕ → Bool) (n : ℕ) → any_below p n ≡ true → (i : ℕ) × (i < n) × (p i ≡ true)
unfolding any_below
any_below-some p zero e = absurd cc
any_below-some p (suc n) e =
    elim (or_cases (any_below p n) (p n) e) [
      | inl before ↦ (let h = any_below-some p n before in (h.0, omega (arith, h.1), h.2))
      | inr here ↦ (n, omega arith, here)
    ]

pub any_between-some : (p : ℕ → Bool) (a b : ℕ) → any_between p a b ≡ true → (i : ℕ) × (a ≤ i) × (i < b) × (p i ≡ true)
unfolding any_between
any_between-some p a b e =
    let h = any_below-some (λ k. p (a + k)) (b - a) e in
    (a + h.0, omega arith, omega (arith, h.1), h.2)

-- the last index below n is i, where p stands at i and at no index between
pub last_below-is : (p : ℕ → Bool) (i n : ℕ) → i < n → p i ≡ true → ((k : ℕ) → i < k → k < n → p k ≡ false) → last_below p n ≡ Some i
unfolding last_below
last_below-is p i zero lt e none = absurd (omega arith)
last_below-is p i (suc n) lt e none =
    elim (cases_eq i n) [
      | inl same ↦ rw (← same) (rw e refl)
      | inr other ↦
          let here : p n ≡ false = none n (omega arith) (omega arith) in
          rw here (last_below-is p i n (omega arith) e (λ k low high. none k low (omega arith)))
    ]

-- where f gives nothing anywhere, nothing is found
pub first_below-all : {X : Type 0} (f : ℕ → Option X) (n : ℕ) → ((i : ℕ) → i < n → f i ≡ None) → first_below f n ≡ None
unfolding first_below
first_below-all f zero h = refl
first_below-all f (suc n) h = option_or-none (first_below f n) (f n) (first_below-all f n (λ i lt. h i (omega arith))) ∙ h n (omega arith)

pub first_between-all : {X : Type 0} (f : ℕ → Option X) (a b : ℕ) → ((i : ℕ) → a ≤ i → i < b → f i ≡ None) → first_between f a b ≡ None
unfolding first_between
first_between-all f a b h = first_below-all (λ k. f (a + k)) (b - a) (λ k lt. h (a + k) (omega arith) (omega arith))

any_below-all : (p : ℕ → Bool) (n : ℕ) → ((i : ℕ) → i < n → p i ≡ false) → any_below p n ≡ false
unfolding any_below
any_below-all p zero h = refl
any_below-all p (suc n) h = or_from (any_below p n) (p n) (any_below-all p n (λ i lt. h i (omega arith))) (h n (omega arith))

pub any_between-all : (p : ℕ → Bool) (a b : ℕ) → ((i : ℕ) → a ≤ i → i < b → p i ≡ false) → any_between p a b ≡ false
unfolding any_between
any_between-all p a b h = any_below-all (λ k. p (a + k)) (b - a) (λ k lt. h (a + k) (omega arith) (omega arith))

-- what the last index below n is
pub record IsLastBelow (p : ℕ → Bool) (n j : ℕ) : Type 0 where
  pub below : j < n
  pub stands : p j ≡ true
  pub last : (k : ℕ) → j < k → k < n → p k ≡ false

pub last_below-some : (p : ℕ → Bool) (n j : ℕ) → last_below p n ≡ Some j → IsLastBelow p n j
unfolding last_below
last_below-some p zero j e = absurd cc
last_below-some p (suc n) j e =
    elim (cases_Bool (p n)) [
      | inl here ↦
          let same : n ≡ j = same_Some n j (rw here at e) in
          record { below = omega arith; stands = ap p (sym same) ∙ here; last = λ k low high. absurd (omega arith) }
      | inr not_here ↦
          let rest = last_below-some p n j (rw not_here at e) in
          record { below = omega (arith, rest.below); stands = rest.stands; last = λ k low high. last_step p n j k not_here rest low high }
    ]
  where
    last_step : (p : ℕ → Bool) (n j k : ℕ) → p n ≡ false → IsLastBelow p n j → j < k → k < suc n → p k ≡ false
    last_step p n j k not_here rest low high = elim (cases_eq k n) [ inl same ↦ ap p same ∙ not_here | inr other ↦ rest.last k low (omega arith) ]

-- a test that finds no fault, and what comes after it
pub passes : {X : Type 0} (b : Bool) (x : X) (y : Option X) → b ≡ false → y ≡ None → cond b (Some x) y ≡ None
passes b x y e f = rw (e, f) refl
