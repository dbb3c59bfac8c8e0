-- Clients that come to an acceptor, counted off.
use Rattle.std.specs.Prelude.{◌≡◌, ◌≢◌, ◌≤◌, ◌+◌, ℕ, Bool, true, false, List, [], ◌∷◌, length}
use Rattle.workers.specs.Ends.{capped}

-- the numbers of those who came after so many earlier ones: each has the next number, the first of all has 1, and numbers stop at the greatest
-- value
abbrev pub AreNumbered : ℕ → List ℕ → Type 0
AreNumbered earlier [] = Unit {0}
AreNumbered earlier (number ∷ numbers) = (number ≡ capped (earlier + 1)) × AreNumbered (earlier + 1) numbers

-- those who came have these numbers. `wanted` clients are wanted, or there is no end to them where that is 0, and `left` of these are left. If
-- there is an end, at most `wanted - left` came, and exactly as many if accepting never failed
pub record AreCountedOff (wanted left accepted : ℕ) (is_endless failed : Bool) (numbers : List ℕ) : Type 0 where
  pub numbered : AreNumbered 0 numbers
  pub accepted_are : accepted ≡ capped (length numbers)
  pub endless : is_endless ≡ true → wanted ≡ 0
  pub bounded : is_endless ≡ false → wanted ≢ 0
  pub most : is_endless ≡ false → left + length numbers ≤ wanted
  pub all : is_endless ≡ false → failed ≡ false → left + length numbers ≡ wanted

-- `many` are no more than are wanted, if there is an end to these. If accepting never failed, there is an end, and they are exactly as many
pub record AreAsMany (wanted many : ℕ) (is_deaf : Bool) : Type 0 where
  pub most : wanted ≢ 0 → many ≤ wanted
  pub all : is_deaf ≡ false → (wanted ≢ 0) × (many ≡ wanted)
