-- A call that was interrupted, made again.
use Rattle.std.proofs.Common.{◌≡◌, ◌∙◌, ℕ, Bool, List, Option, None, Some, Result, Ok, Err, IfOk, false, subst, sym, true}
use Rattle.std.proofs.lemmas.Bool.{true≢false}
use Rattle.std.specs.Io.KnownBytes.{Keeps, ReadConsumes, WriteAppends}

module _ {E : Type 0} where
  read_after : (a b c : Option (List ℕ)) (r : Result ℕ E) (piece : List ℕ) → Keeps a b → ReadConsumes b c r piece → ReadConsumes a c r piece
  read_after None b c (Ok n) piece kept read = (tt, read.1)
  read_after None b c (Err e) piece kept read = tt
  read_after (Some xs) None c r piece kept read = absurd kept
  read_after (Some xs) (Some ys) c r piece kept read = subst (λ (zs : List ℕ). ReadConsumes (Some zs) c r piece) kept read

  write_after : (a b c : Option (List ℕ)) (r : Result ℕ E) (bytes : List ℕ) → Keeps a b → WriteAppends b c r bytes → WriteAppends a c r bytes
  write_after None b c (Ok n) bytes kept write = tt
  write_after None b c (Err e) bytes kept write = tt
  write_after (Some xs) None c r bytes kept write = absurd kept
  write_after (Some xs) (Some ys) c r bytes kept write = subst (λ (zs : List ℕ). WriteAppends (Some zs) c r bytes) kept write

  -- an interrupted read took nothing, nor did an interrupted write add anything
  pub read_again : (a b c : Option (List ℕ)) (first r : Result ℕ E) (before piece : List ℕ) (was : Bool) → IfOk first (λ _. was ≡ false) → was ≡ true
      → ReadConsumes a b first before → ReadConsumes b c r piece → ReadConsumes a c r piece
  read_again a b c (Ok n) r before piece was fine is x y = absurd (true≢false (sym is ∙ fine))
  read_again a b c (Err e) r before piece was fine is x y = read_after a b c r piece x y

  pub write_again : (a b c : Option (List ℕ)) (first r : Result ℕ E) (bytes : List ℕ) (was : Bool) → IfOk first (λ _. was ≡ false) → was ≡ true
      → WriteAppends a b first bytes → WriteAppends b c r bytes → WriteAppends a c r bytes
  write_again a b c (Ok n) r bytes was fine is x y = absurd (true≢false (sym is ∙ fine))
  write_again a b c (Err e) r bytes was fine is x y = write_after a b c r bytes x y
