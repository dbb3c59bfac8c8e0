-- Lists of notices: they never fall, and it doesn't matter which of two equal ones is removed.
use Rattle.std.proofs.Common.{◌≡◌, ℕ, zero, suc, ◌+◌, ◌≤◌, max, List, [], ◌∷◌, ◌++◌, remove, Some, slice_get, refl, ap, sym, ◌∙◌, arith}
use Rattle.version_core.specs.Invariants.{RiseWithin}

pub most_left : (a b : ℕ) → a ≤ max a b
most_left a b = omega arith

pub most_right : (a b : ℕ) → b ≤ max a b
most_right a b = omega arith

pub most_least : (a b c : ℕ) → a ≤ c → b ≤ c → max a b ≤ c
most_least a b c p q = omega arith

-- the current version may rise
pub rise_later : (low : ℕ) (ns : List ℕ) (high next : ℕ) → RiseWithin low ns high → high ≤ next → RiseWithin low ns next
rise_later low [] high next h up = omega arith
rise_later low (n ∷ ns) high next h up = (h.0, rise_later n ns high next h.1 up)

rise_lower : (less low : ℕ) (ns : List ℕ) (high : ℕ) → less ≤ low → RiseWithin low ns high → RiseWithin less ns high
rise_lower less low [] high down h = omega arith
rise_lower less low (n ∷ ns) high down h = let a = h.0 in (omega arith, h.1)

-- a notice of the current version is the newest
pub rise_more : (low : ℕ) (ns : List ℕ) (high : ℕ) → RiseWithin low ns high → RiseWithin low (ns ++ high ∷ []) high
rise_more low [] high h = (h, omega arith)
rise_more low (n ∷ ns) high h = (h.0, rise_more n ns high h.1)

pub rise_less : (low : ℕ) (ns : List ℕ) (high index v : ℕ) → RiseWithin low ns high → slice_get ns index ≡ Some v → RiseWithin low (remove ns index) high
rise_less low [] high index v h is = absurd (cc)
rise_less low (n ∷ ns) high zero v h is = rise_lower low n ns high h.0 h.1
rise_less low (n ∷ ns) high (suc i) v h is = (h.0, rise_less n ns high i v h.1 is)

rises : (low : ℕ) (ns : List ℕ) (high : ℕ) → RiseWithin low ns high → low ≤ high
rises low [] high h = h
rises low (n ∷ ns) high h = let a = h.0 in let b = rises n ns high h.1 in omega arith

pub rise_at : (low : ℕ) (ns : List ℕ) (high index v : ℕ) → RiseWithin low ns high → slice_get ns index ≡ Some v → (low ≤ v) × (v ≤ high)
rise_at low [] high index v h is = absurd (cc)
rise_at low (n ∷ ns) high zero v h is = let same : n ≡ v = cc in let a = h.0 in let b = rises n ns high h.1 in (omega arith, omega arith)
rise_at low (n ∷ ns) high (suc i) v h is = let f = rise_at n ns high i v h.1 is in let a = h.0 in let b = f.0 in (omega arith, f.1)

-- where versions rise, all up to one that is as the first are as the first
same_first : (ns : List ℕ) (high index v : ℕ) → RiseWithin v ns high → slice_get ns index ≡ Some v → v ∷ remove ns index ≡ ns
same_first [] high index v h is = absurd (cc)
same_first (n ∷ ns) high zero v h is = let same : n ≡ v = cc in ap (λ m. m ∷ ns) (sym same)
same_first (n ∷ ns) high (suc i) v h is =
    let most = (rise_at n ns high i v h.1 is).0 in let least = h.0 in
    let same : v ≡ n = omega arith in
    ap (λ m. v ∷ m ∷ remove ns i) (sym same) ∙ (ap (λ l. v ∷ l) (same_first ns high i v (rw (← same) at h.1) is) ∙ ap (λ m. m ∷ ns) same)

-- so it doesn't matter which notice of a version is taken out
pub remove_one : (low : ℕ) (ns : List ℕ) (high i j v : ℕ) → RiseWithin low ns high → slice_get ns i ≡ Some v → slice_get ns j ≡ Some v
    → remove ns j ≡ remove ns i
remove_one low [] high i j v h a b = absurd (cc)
remove_one low (n ∷ ns) high zero zero v h a b = refl
remove_one low (n ∷ ns) high zero (suc j) v h a b = let same : n ≡ v = cc in ap (λ m. m ∷ remove ns j) same ∙ same_first ns high j v (rw same at h.1) b
remove_one low (n ∷ ns) high (suc i) zero v h a b = let same : n ≡ v = cc in sym (ap (λ m. m ∷ remove ns i) same ∙ same_first ns high i v (rw same at h.1) a)
remove_one low (n ∷ ns) high (suc i) (suc j) v h a b = ap (λ l. n ∷ l) (remove_one n ns high i j v h.1 a b)
