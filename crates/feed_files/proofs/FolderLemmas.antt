-- The bytes that were read of a file.
use Rattle.std.proofs.Common.{◌≡◌, ◌++◌, ℕ, List, [], Option, None, Some, Vec, subst, take}
use Rattle.std.specs.Prelude.{IfSome, option_map}
use Rattle.std.specs.declared.alloc.Global.{Global}
use Rattle.feed_files.specs.Seen.{IsFileAt, Seen, WasRead}

-- a file that was read, or wasn't found
pub was_read : (seen : Seen) (path : List ℕ) (file : Option (Vec ℕ Global)) → IsFileAt seen path file → WasRead seen path file
was_read seen path None missing = missing
was_read seen path (Some bytes) (state, (held, still)) = (state, held)

-- what was read of the first `most` bytes is those
pub first_read : (most : ℕ) (known left : Option (List ℕ)) (before items : List ℕ) → left ≡ option_map (take most) known → before ≡ []
    → IfSome left (λ xs. items ≡ before ++ xs) → IfSome known (λ held. items ≡ take most held)
first_read most None left before items cut none read = tt
first_read most (Some held) left before items cut none read =
    subst (λ front. items ≡ front ++ take most held) none
    (subst (λ o. IfSome o (λ xs. items ≡ before ++ xs)) cut read)
