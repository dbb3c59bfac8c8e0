-- A list made from a function of the index, or filtered by one, one index at a time.
use Rattle.std.proofs.Common.{◌≡◌, ◌∙◌, ◌+◌, ℕ, zero, suc, List, [], ◌∷◌, ◌++◌, true, false, ap, sym, arith}
use Rattle.std.specs.Prelude.{Bool, filter, if◌then◌else◌}
use Rattle.std.specs.List.{range_with_len}
use Rattle.std.proofs.lemmas.List.{append-nil}
use Rattle.std.proofs.lemmas.List.Elements.{filter-append}

last : (a n j : ℕ) → a + n ≡ j → range_with_len a (suc n) ≡ range_with_len a n ++ j ∷ []
last a zero j e = let same : a ≡ j = omega arith in ap (λ k. k ∷ []) same
last a (suc n) j e = ap (λ l. a ∷ l) (last (a + 1) n j (omega arith))

-- the next index is kept or not
pub counted_more : (p : ℕ → Bool) (n : ℕ) → filter p (range_with_len 0 (n + 1)) ≡ filter p (range_with_len 0 n) ++ (if p n then n ∷ [] else [])
counted_more p n =
    let on : n + 1 ≡ suc n = omega arith in
    ap (λ k. filter p (range_with_len 0 k)) on ∙ ap (filter p) (last 0 n n (omega arith)) ∙ filter-append p (range_with_len 0 n) (n ∷ [])

-- it is kept
pub kept_more : (p : ℕ → Bool) (n : ℕ) (old new : List ℕ) → p n ≡ true → new ≡ old ++ n ∷ [] → old ≡ filter p (range_with_len 0 n)
    → new ≡ filter p (range_with_len 0 (n + 1))
kept_more p n old new is grown before =
    grown ∙ ap (λ (xs : List ℕ). xs ++ n ∷ []) before
    ∙ sym (counted_more p n ∙ ap (λ (b : Bool). filter p (range_with_len 0 n) ++ (if b then n ∷ [] else [])) is)

-- it isn't
pub left_out : (p : ℕ → Bool) (n : ℕ) (now : List ℕ) → p n ≡ false → now ≡ filter p (range_with_len 0 n) → now ≡ filter p (range_with_len 0 (n + 1))
left_out p n now not before =
    before ∙ sym (counted_more p n ∙ ap (λ (b : Bool). filter p (range_with_len 0 n) ++ (if b then n ∷ [] else [])) not
    ∙ append-nil (filter p (range_with_len 0 n)))
