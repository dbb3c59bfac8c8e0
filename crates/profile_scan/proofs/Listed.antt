-- Whether a list has a number.
use Rattle.std.proofs.Common.{◌⊎◌, ℕ, List, [], ◌∷◌, Contains, subst, inl, inr}
use Rattle.std.proofs.lemmas.Bool.{cases_eq}
use Rattle.reasoning.proofs.ListLemmas.{contains_cases, contains_first, contains_rest, not_in_nil}

pub cases_listed : (xs : List ℕ) (x : ℕ) → Contains xs x ⊎ (Contains xs x → ⊥)
cases_listed [] x = inr (not_in_nil x)
cases_listed (y ∷ ys) x = elim (cases_eq y x) [
  | inl e ↦ inl (subst (Contains (y ∷ ys)) e (contains_first y ys))
  | inr other ↦ elim (cases_listed ys x) [
    | inl is ↦ inl (contains_rest x y ys is)
    | inr none ↦ inr (λ is. elim (contains_cases x y ys is) [ inl e ↦ other e | inr later ↦ none later ])
  ]
]
