-- The least of some numbers, found one by one.
use Rattle.std.proofs.Common.{◌≡◌, ◌⊎◌, ◌<◌, ◌≤◌, ◌+◌, ℕ, List, ◌∷◌, [], ◌++◌, Contains, length, map, take, min, get_or}
use Rattle.std.proofs.Common.{refl, sym, ◌∙◌, ap, subst, inl, inr, arith, option_map}
use Rattle.std.proofs.Math.Nat.{min-eq_left, min-eq_right, min-le_left, min-le_right}
use Rattle.std.proofs.lemmas.Bool.{cases_lt}
use Rattle.std.proofs.lemmas.List.{map-append, take_all, take_more}
use Rattle.std.proofs.lemmas.List.Elements.{Contains-push_cases}
use Rattle.std.proofs.lemmas.Option.{slice_get-map, slice_get_read}
use Rattle.reasoning.proofs.ListLemmas.{contains_at}

min_is_one : (a b : ℕ) → (min a b ≡ a) ⊎ (min a b ≡ b)
min_is_one a b = elim (cases_lt a b) [
  | inl less ↦ inl (min-eq_left (omega (arith, less)))
  | inr not_less ↦ inr (min-eq_right (omega (arith, not_less)))
]

module _ {A : Type 0} (f : A → ℕ) (xs : List A) where
  pub is_one : (i : ℕ) (x : A) → i < length xs → x ≡ get_or xs i x → Contains (map f xs) (f x)
  is_one i x lt is = contains_at (map f xs) i (f x) (slice_get-map f xs i ∙ ap (option_map f) (slice_get_read xs (length xs) i x refl lt is))

  -- the lesser of two of them is one
  pub min_reached : (a b now : ℕ) → now ≡ min a b → Contains (map f xs) a → Contains (map f xs) b → Contains (map f xs) now
  min_reached a b now is left right = elim (min_is_one a b) [
    | inl e ↦ subst (Contains (map f xs)) (sym (is ∙ e)) left
    | inr e ↦ subst (Contains (map f xs)) (sym (is ∙ e)) right
  ]

  -- none of one more is less than the lesser of what was least and that one
  pub none_less_more : (i : ℕ) (x : A) (least now : ℕ) → i < length xs → x ≡ get_or xs i x → now ≡ min least (f x)
      → ((n : ℕ) → Contains (map f (take i xs)) n → least ≤ n) → (n : ℕ) → Contains (map f (take (i + 1) xs)) n → now ≤ n
  none_less_more i x least now lt there is before n has =
      let grown : map f (take (i + 1) xs) ≡ map f (take i xs) ++ f x ∷ [] =
      ap (map f) (take_more xs i x lt ∙ ap (λ z. take i xs ++ z ∷ []) (sym there)) ∙ map-append f (take i xs) (x ∷ []) in
      let left = min-le_left least (f x) in
      let right = min-le_right least (f x) in
      elim (Contains-push_cases (map f (take i xs)) (f x) n (subst (λ (ys : List ℕ). Contains ys n) grown has)) [
        | inl older ↦ (let le = before n older in omega (arith, is, left, le))
        | inr last ↦ omega (arith, is, right, last)
      ]

  pub none_less_all : (i : ℕ) (least : ℕ) → length xs ≤ i → ((n : ℕ) → Contains (map f (take i xs)) n → least ≤ n)
      → (n : ℕ) → Contains (map f xs) n → least ≤ n
  none_less_all i least past before n has = before n (subst (λ (ys : List A). Contains (map f ys) n) (sym (take_all i xs past)) has)
