-- Numbers from one on, in order.
use Rattle.std.proofs.Common.{◌≡◌, ◌<◌, ◌+◌, ◌++◌, ◌∙◌, ℕ, zero, suc, List, [], ◌∷◌, Contains, ap, arith}
use Rattle.std.specs.List.{range_with_len}
use Rattle.std.proofs.lemmas.List.FromFn.{get_or-range_with_len, length-range_with_len}

pub range_more : (from count : ℕ) → range_with_len from (suc count) ≡ range_with_len from count ++ (from + count) ∷ []
range_more from zero = (let e : from ≡ from + 0 = omega arith in ap (λ (n : ℕ). n ∷ []) e)
range_more from (suc count) =
    let e : from + 1 + count ≡ from + suc count = omega arith in
    ap (λ (rest : List ℕ). from ∷ rest) (range_more (from + 1) count ∙ ap (λ (n : ℕ). range_with_len (from + 1) count ++ n ∷ []) e)

pub below_all : (count n : ℕ) → Contains (range_with_len 0 count) n → n < count
below_all count n h =
    let less : h.0 < count = (let lt = h.1 in omega (arith, lt, length-range_with_len 0 count)) in
    let is = get_or-range_with_len 0 count h.0 n less in
    let same = h.2 in
    omega (arith, less, is, same)
