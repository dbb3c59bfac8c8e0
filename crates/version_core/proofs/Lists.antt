-- Lists after a write, by `slice_get`.
use Rattle.std.proofs.Common.{◌≡◌, ◌≢◌, ℕ, ◌+◌, ◌<◌, ◌≤◌, Bool, true, false, cond, List, length, set, Some, slice_get}
use Rattle.std.proofs.Common.{count_by, get_or, subst, refl, ap, sym, ◌∙◌, arith, ◌⊎◌, inl, inr, get_or-set_same}
use Rattle.std.proofs.Common.{get_or-set_other}
use Rattle.std.proofs.lemmas.List.Sums.{sum_by-set, get_or-le-sum_by}
use Rattle.std.proofs.lemmas.Option.{get_or_from_slice_get, slice_get_within}
use mathlib.Core.Logic.{dite}
use native.Mathlib.Decide.{ℕ_discrete}
use Rattle.reasoning.proofs.ListLemmas.{slice_get-set_same, slice_get-set_other}

-- an element after a write is the one that was written, or was there before
pub slice_get-set : {X : Type 0} (xs : List X) (i j : ℕ) (y z : X) → i < length xs → slice_get (set xs i y) j ≡ Some z
    → ((j ≡ i) × (z ≡ y)) ⊎ ((j ≢ i) × (slice_get xs j ≡ Some z))
slice_get-set xs i j y z within is =
    dite (ℕ_discrete j i)
    (λ e. let same : slice_get (set xs i y) j ≡ Some y = ap (λ n. slice_get (set xs i y) n) e ∙ slice_get-set_same xs i y within in inl (e, (cc)))
    (λ e. inr (e, sym (slice_get-set_other xs i j y e) ∙ is))

-- a number after a write
pub get_or-set : (xs : List ℕ) (i j n m : ℕ) → i < length xs → (i ≡ j → n ≡ m) → (i ≢ j → get_or xs j 0 ≡ m) → get_or (set xs i n) j 0 ≡ m
get_or-set xs i j n m within same other =
    dite (ℕ_discrete i j)
    (λ e. subst (λ k. get_or (set xs i n) k 0 ≡ m) e (get_or-set_same xs i n 0 within ∙ same e))
    (λ e. get_or-set_other xs i j n 0 (λ q. e (sym q)) ∙ other e)

pub count_by-set : {X : Type 0} (p : X → Bool) (xs : List X) (i : ℕ) (x y : X) → slice_get xs i ≡ Some x
    → count_by p (set xs i y) + cond (p x) 1 0 ≡ count_by p xs + cond (p y) 1 0
count_by-set {X} p xs i x y is =
    let e : count_by p (set xs i y) + cond (p (get_or xs i x)) 1 0 ≡ count_by p xs + cond (p y) 1 0 =
    sum_by-set (λ (z : X). cond (p z) 1 0) xs i y x (slice_get_within xs i x is) in
    subst (λ (z : X). count_by p (set xs i y) + cond (p z) 1 0 ≡ count_by p xs + cond (p y) 1 0) (get_or_from_slice_get xs i x x is) e

-- who passes the test is counted
pub is_counted : {X : Type 0} (p : X → Bool) (xs : List X) (i : ℕ) (x : X) → slice_get xs i ≡ Some x → cond (p x) 1 0 ≤ count_by p xs
is_counted {X} p xs i x is =
    subst (λ (z : X). cond (p z) 1 0 ≤ count_by p xs) (get_or_from_slice_get xs i x x is)
    (get_or-le-sum_by (λ (z : X). cond (p z) 1 0) xs i x (slice_get_within xs i x is))

pub no_one : (b : Bool) → cond b 1 0 ≤ 0 → b ≡ false
no_one true h = absurd (omega arith)
no_one false h = refl
