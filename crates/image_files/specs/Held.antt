-- Which bytes an image is read from.
use Rattle.std.specs.Prelude.{◌≡◌, ◌≢◌, ◌⊎◌, ℕ, List, Option, IfSome, codes}

-- Is holds of all bytes that are read, if they are known: those of the input for the path `-`, else those that a file at the path may hold
pub record HoldsOfBytes (may_hold : List ℕ → Option (List ℕ) → Type 0) (path : List ℕ) (input : Option (List ℕ))
    (Is : List ℕ → Type 0) : Type 0 where
  pub held : Option (List ℕ)
  pub of_input : path ≡ codes "-" → held ≡ input
  pub of_file : path ≢ codes "-" → may_hold path held
  pub holds : IfSome held Is

-- what is at the path may not be opened or read; or a read of the input may fail, for the path `-`
abbrev pub IsUnreadable : (List ℕ → Type 0) → List ℕ → Type 0 → Type 0
IsUnreadable may_fail path may_input_fail = ((path ≡ codes "-") × may_input_fail) ⊎ ((path ≢ codes "-") × may_fail path)

-- the input is as it was, unless its path is the one that is read
abbrev pub IsLeftAlone : {I : Type 0} → List ℕ → I → I → Type 0
IsLeftAlone path before after = path ≢ codes "-" → after ≡ before
