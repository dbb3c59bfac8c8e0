-- Chains: the points along them, and the paths that lead along them.
use Rattle.std.proofs.Common.{◌≡◌, ℕ, zero, suc, ◌<◌, ◌≤◌, List, [], ◌∷◌, ◌++◌, Contains, inl, inr, refl, sym, ◌∙◌, ap, ap₂, subst, arith}
use Rattle.std.proofs.lemmas.List.Elements.{Contains-push_cases}
use Rattle.fronts.specs.Chains.{points_to, points_along, IsChainPath}

pub none_at_end : {X : Type 0} (next : ℕ → ℕ) (own : ℕ → List X) → points_along next own 0 ≡ []
unfolding points_to
none_at_end next own = refl

module _ {X : Type 0} (next : ℕ → ℕ) (own : ℕ → List X) (back : (m : ℕ) → next (suc m) ≤ m) where
  fuel : (n k m : ℕ) → m ≤ n → m ≤ k → points_to next own n m ≡ points_to next own k m
  unfolding points_to
  fuel zero zero m a b = refl
  fuel zero (suc k) zero a b = refl
  fuel zero (suc k) (suc m) a b = absurd (omega (arith, a))
  fuel (suc n) zero zero a b = refl
  fuel (suc n) zero (suc m) a b = absurd (omega (arith, b))
  fuel (suc n) (suc k) zero a b = refl
  fuel (suc n) (suc k) (suc m) a b =
      let older = back m in
      ap (λ xs. own (suc m) ++ xs) (fuel n k (next (suc m)) (omega (arith, a, older)) (omega (arith, b, older)))

  -- a chain's points are those of its first entry, and those of the rest
  pub unrolled : (m : ℕ) → points_along next own (suc m) ≡ own (suc m) ++ points_along next own (next (suc m))
  unfolding points_to
  unrolled m = let older = back m in ap (λ xs. own (suc m) ++ xs) (fuel m (next (suc m)) (next (suc m)) older (omega arith))

  -- where the first entries stay, so do the points along their chains
  module _ (now : ℕ → ℕ) (owns : ℕ → List X) (long : ℕ) (same_next : (m : ℕ) → m < long → now m ≡ next m)
      (same_own : (m : ℕ) → m < long → owns m ≡ own m) where
    same_to : (n m : ℕ) → m < long → points_to now owns n m ≡ points_to next own n m
    unfolding points_to
    same_to zero m lt = refl
    same_to (suc n) zero lt = refl
    same_to (suc n) (suc m) lt =
        let older = back m in
        ap₂ (λ xs ys. xs ++ ys) (same_own (suc m) lt)
        (ap (points_to now owns n) (same_next (suc m) lt) ∙ same_to n (next (suc m)) (omega (arith, older, lt)))

    pub same_along : (m : ℕ) → m < long → points_along now owns m ≡ points_along next own m
    same_along m lt = same_to m m lt

module _ (next : ℕ → ℕ) (long : ℕ) where
  pub path_push : (head : ℕ) (bs : List ℕ) (b n : ℕ) → IsChainPath next long head bs b → 0 < b → b < long → next b ≡ n
      → IsChainPath next long head (bs ++ b ∷ []) n
  path_push head [] b n path some within is = (path, some, within, is)
  path_push head (x ∷ xs) b n path some within is = (path.0, path.1, path.2, path_push (next x) xs b n path.3 some within is)

  pub path_pop : (head : ℕ) (bs : List ℕ) (b m : ℕ) → IsChainPath next long head (bs ++ b ∷ []) m
      → IsChainPath next long head bs b × (0 < b) × (b < long) × (next b ≡ m)
  path_pop head [] b m path = (path.0, path.1, path.2, path.3)
  path_pop head (x ∷ xs) b m path =
      let rest = path_pop (next x) xs b m path.3 in
      ((path.0, path.1, path.2, rest.0), rest.1, rest.2, rest.3)

  -- a path stays one as entries are added
  pub path_more : (now : ℕ → ℕ) (longer : ℕ) → long ≤ longer → ((m : ℕ) → m < long → now m ≡ next m)
      → (head : ℕ) (bs : List ℕ) (m : ℕ) → IsChainPath next long head bs m → IsChainPath now longer head bs m
  path_more now longer more same head [] m path = path
  path_more now longer more same head (x ∷ xs) m path =
      let within = path.2 in (
        path.0,
        path.1,
        omega (arith, within, more),
        subst (λ n. IsChainPath now longer n xs m) (sym (same x path.2)) (path_more now longer more same (next x) xs m path.3),
      )

-- entries that depart before a time, and one more
pub before_push : (departure : ℕ → ℕ) (time : ℕ) (bs : List ℕ) (b : ℕ) → ((k : ℕ) → Contains bs k → departure k < time) → departure b < time
    → (k : ℕ) → Contains (bs ++ b ∷ []) k → departure k < time
before_push departure time bs b before early x h = elim (Contains-push_cases bs b x h) [
  | inl a ↦ before x a
  | inr e ↦ subst (λ k. departure k < time) e early
]
