-- Why a client's session is not read.
use Rattle.std.specs.Prelude.{◌≤◌, ◌⊎◌, ◌∷◌, ℕ, List, [], Option, Some, None}

-- a look at the stream failed, or showed a capital letter: with one begins the first request of HTTP, and no request of a session
abbrev pub IsNoSession : {S : Type 0} → (S → Option (List ℕ) → Type 0) → S → Type 0
IsNoSession shows stream = shows stream None ⊎ ((letter : ℕ) × shows stream (Some (letter ∷ [])) × (65 ≤ letter) × (letter ≤ 90))
