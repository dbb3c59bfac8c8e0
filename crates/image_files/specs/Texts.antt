-- The whole texts of files.
use Rattle.std.specs.Prelude.{◌≡◌, ◌⊎◌, ℕ, List, Option, IfSome}
use Rattle.std.specs.Str.{IsUtf8}

-- a text is what a file at the path may hold, if that is known
pub record IsTextAt (may_hold : List ℕ → Option (List ℕ) → Type 0) (path text : List ℕ) : Type 0 where
  pub held : Option (List ℕ)
  pub may : may_hold path held
  pub is : IfSome held (λ bytes. text ≡ bytes)

-- Is holds of such a text
abbrev pub HoldsOfText : (List ℕ → Option (List ℕ) → Type 0) → List ℕ → (List ℕ → Type 0) → Type 0
HoldsOfText may_hold path Is = (text : List ℕ) × IsTextAt may_hold path text × Is text

-- what is at the path may not be opened or read, or isn't UTF-8
abbrev pub IsNoTextAt : (List ℕ → Type 0) → (List ℕ → Option (List ℕ) → Type 0) → List ℕ → Type 0
IsNoTextAt may_fail may_hold path = may_fail path ⊎ HoldsOfText may_hold path (λ bytes. ¬ (IsUtf8 bytes))
