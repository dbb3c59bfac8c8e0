-- The indices of the best points, one index further.
use Rattle.std.proofs.Common.{◌≡◌, ℕ, zero, suc, ◌+◌, ◌-◌, ◌<◌, ◌≤◌, ◌⊎◌, Bool, true, false, if◌then◌else◌, List, []}
use Rattle.std.proofs.Common.{◌∷◌, length, drop, slice_get, Some, Contains, inl, inr, arith, refl, sym, ◌∙◌, ap, subst}
use Rattle.std.proofs.Common.{add-zero}
use Rattle.std.proofs.lemmas.List.{drop_more}
use Rattle.std.proofs.lemmas.Option.{get_or_from_slice_get}
use Rattle.reasoning.proofs.ListLemmas.{not_in_nil, contains_first, contains_rest, contains_cases, at_below}
use Rattle.bags.specs.Best.{indices_from}

-- at an index inside the list, where r is what the test tells of the element there
pub indices_from-step : {X : Type 0} (test : X → Bool) (xs : List X) (n : ℕ) (r : Bool) → n < length xs
    → ((x : X) → slice_get xs n ≡ Some x → r ≡ test x) → indices_from test n (drop n xs)
    ≡ (if r then n ∷ indices_from test (n + 1) (drop (n + 1) xs) else indices_from test (n + 1) (drop (n + 1) xs))
indices_from-step test xs n r lt tells =
    let at = at_below xs n lt in
    let rest = indices_from test (n + 1) (drop (n + 1) xs) in
    ap (indices_from test n) (drop_more xs n at.0 lt
    ∙ ap (λ y. y ∷ drop (n + 1) xs) (get_or_from_slice_get xs n at.0 at.0 at.1))
    ∙ ap (λ (b : Bool). if b then n ∷ rest else rest) (sym (tells at.0 at.1))

-- what the first of two parts of a list is
first_or_later : (b : Bool) (n : ℕ) (rest : List ℕ) (k : ℕ) → Contains (if b then n ∷ rest else rest) k → ((b ≡ true) × (n ≡ k)) ⊎ Contains rest k
first_or_later true n rest k h = elim (contains_cases k n rest h) [ inl e ↦ inl (refl, e) | inr later ↦ inr later ]
first_or_later false n rest k h = inr h

-- what stands at an index that is given passes
pub indices_from-passes : {X : Type 0} (test : X → Bool) (n : ℕ) (xs : List X) (k : ℕ)
    → Contains (indices_from test n xs) k → (i : ℕ) × (x : X) × (k ≡ n + i) × (slice_get xs i ≡ Some x) × (test x ≡ true)
indices_from-passes test n [] k h = absurd (not_in_nil k h)
indices_from-passes test n (x ∷ xs) k h =
    elim (first_or_later (test x) n (indices_from test (n + 1) xs) k h) [
      | inl here ↦ (0, x, sym here.1 ∙ sym (add-zero n), refl, here.0)
      | inr later ↦
          let rest = indices_from-passes test (n + 1) xs k later in
          let shift : n + 1 + rest.0 ≡ n + suc rest.0 = omega arith in
          (suc rest.0, rest.1, rest.2 ∙ shift, rest.3, rest.4)
    ]

-- the index of what passes is given
pub indices_from-gives : {X : Type 0} (test : X → Bool) (n : ℕ) (xs : List X) (i : ℕ) (x : X) → slice_get xs i ≡ Some x
    → test x ≡ true → Contains (indices_from test n xs) (n + i)
indices_from-gives test n [] i x is passes = absurd (cc)
indices_from-gives test n (y ∷ xs) zero x is passes =
    let same : y ≡ x = cc in
    let rest = indices_from test (n + 1) xs in
    subst (λ (b : Bool). Contains (if b then n ∷ rest else rest) (n + 0)) (sym (ap test same ∙ passes))
    (subst (Contains (n ∷ rest)) (sym (add-zero n)) (contains_first n rest))
indices_from-gives test n (y ∷ xs) (suc i) x is passes =
    let shift : n + 1 + i ≡ n + suc i = omega arith in
    let rest = indices_from test (n + 1) xs in
    let later = subst (Contains rest) shift (indices_from-gives test (n + 1) xs i x is passes) in
    elim (test y) as (λ b. Contains (if b then n ∷ rest else rest) (n + suc i)) [
      | true ↦ contains_rest (n + suc i) n rest later
      | false ↦ later
    ]

-- the indices before another, none of which passes, are passed over
passed_by : {X : Type 0} (test : X → Bool) (xs : List X) (n a : ℕ) → a + n ≤ length xs
    → ((k : ℕ) (x : X) → a ≤ k → k < a + n → slice_get xs k ≡ Some x → test x ≡ false)
    → indices_from test a (drop a xs) ≡ indices_from test (a + n) (drop (a + n) xs)
passed_by test xs zero a within none = ap (λ m. indices_from test m (drop m xs)) (sym (add-zero a))
passed_by test xs (suc n) a within none =
    let on : a + 1 + n ≡ a + suc n = omega arith in
    indices_from-step test xs a false (omega arith) (λ x is. sym (none a x (omega arith) (omega arith) is))
    ∙ (passed_by test xs n (a + 1) (omega arith) (λ k x low lt is. none k x (omega arith) (omega arith) is)
    ∙ ap (λ m. indices_from test m (drop m xs)) on)

pub passed_over : {X : Type 0} (test : X → Bool) (xs : List X) (a b : ℕ) → a ≤ b → b ≤ length xs
    → ((k : ℕ) (x : X) → a ≤ k → k < b → slice_get xs k ≡ Some x → test x ≡ false)
    → indices_from test a (drop a xs) ≡ indices_from test b (drop b xs)
passed_over test xs a b le within none =
    let on : a + (b - a) ≡ b = omega arith in
    passed_by test xs (b - a) a (omega arith) (λ k x low lt is. none k x low (omega arith) is) ∙ ap (λ m. indices_from test m (drop m xs)) on
