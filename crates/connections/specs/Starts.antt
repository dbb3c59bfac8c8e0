-- The first time at or after a given time that passes a test.
use Rattle.std.specs.Prelude.{◌≡◌, ◌<◌, ◌≤◌, min, ℕ, Option, Bool, None, Some, true, false}

-- no time at or after `from` passes the test
abbrev pub IsNever : (ℕ → Bool) → ℕ → Type 0
IsNever test from = (s : ℕ) → from ≤ s → test s ≡ false

-- this is the first time at or after `from` that passes the test
pub record IsNext (test : ℕ → Bool) (from time : ℕ) : Type 0 where
  pub after : from ≤ time
  pub is : test time ≡ true
  pub first : (s : ℕ) → from ≤ s → s < time → test s ≡ false

-- the earlier of two times, or the only one if one is missing
abbrev pub earlier_of : Option ℕ → Option ℕ → Option ℕ
earlier_of None other = other
earlier_of (Some a) None = Some a
earlier_of (Some a) (Some b) = Some (min a b)
