-- Chains: lists of entries in one vector, of which each leads to an older one. Entry 0 ends each chain.
use Rattle.std.specs.Prelude.{◌≡◌, ℕ, zero, suc, ◌<◌, List, [], ◌∷◌, ◌++◌}

-- the points of the entries along a chain from entry m on, of at most n entries
unfoldable pub points_to : {X : Type 0} → (ℕ → ℕ) → (ℕ → List X) → ℕ → ℕ → List X
points_to next own zero m = []
points_to next own (suc n) zero = []
points_to next own (suc n) (suc m) = own (suc m) ++ points_to next own n (next (suc m))

-- the points of the chain that begins at an entry
abbrev pub points_along : {X : Type 0} → (ℕ → ℕ) → (ℕ → List X) → ℕ → List X
points_along next own head = points_to next own head head

-- these of so many entries, one after the other, lead from `head` to m along a chain
abbrev pub IsChainPath : (ℕ → ℕ) → ℕ → ℕ → List ℕ → ℕ → Type 0
IsChainPath next long head [] m = head ≡ m
IsChainPath next long head (b ∷ bs) m = (head ≡ b) × (0 < b) × (b < long) × IsChainPath next long (next b) bs m
