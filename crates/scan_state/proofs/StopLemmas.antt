-- The lists of stops, one of them replaced.
use Rattle.std.proofs.Common.{ℕ, ◌<◌, ◌≤◌, List, length, set, slice_index, get_or-set_same, get_or-set_other, length-set, inl, inr, ◌∙◌, ap, arith}
use Rattle.std.proofs.lemmas.Bool.{cases_eq, cases_lt}
use Rattle.std.proofs.lemmas.List.{get_or_past}

-- each head is below a bound that grows
pub heads_within : (heads : List ℕ) (stop head old new : ℕ) → ((k : ℕ) → slice_index heads k < old) → old ≤ new
    → head < new → (k : ℕ) → slice_index (set heads stop head) k < new
heads_within heads stop head old new within grows lt k = elim (cases_eq k stop) [
  | inl e ↦ elim (cases_lt stop (length heads)) [
    | inl inside ↦ (let here = ap (λ (n : ℕ). slice_index (set heads stop head) n) e ∙ get_or-set_same heads stop head 0 inside in omega arith)
    | inr past ↦ (let long = length-set heads stop head in let here = get_or_past (set heads stop head) k 0 (omega arith) in let low = within k in omega arith)
  ]
  | inr other ↦ (let same = get_or-set_other heads stop k head 0 other in let low = within k in omega arith)
]
