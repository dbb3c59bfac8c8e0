-- The least and the greatest index at which something holds.
use Rattle.std.specs.Prelude.{ℕ, ◌+◌, ◌-◌, zero, suc, Bool, false, ◌||◌, Option, Some, None, if◌then◌else◌}
use Rattle.std.specs.Option.{option_or}

-- the value of `f` at the least index below `n` at which it has one
unfoldable pub first_below : {X : Type 0} → (ℕ → Option X) → ℕ → Option X
first_below f zero = None
first_below f (suc n) = option_or (first_below f n) (f n)

-- the greatest index below `n` at which `p` holds
unfoldable pub last_below : (ℕ → Bool) → ℕ → Option ℕ
last_below p zero = None
last_below p (suc n) = if p n then Some n else last_below p n

-- whether `p` holds at some index below `n`
unfoldable pub any_below : (ℕ → Bool) → ℕ → Bool
any_below p zero = false
any_below p (suc n) = any_below p n || p n

-- whether `p` holds at some index from `a` on, below `b`
unfoldable pub any_between : (ℕ → Bool) → ℕ → ℕ → Bool
any_between p a b = any_below (λ k. p (a + k)) (b - a)

-- the value of `f` at the least index from `a` on, below `b`, at which it has one
unfoldable pub first_between : {X : Type 0} → (ℕ → Option X) → ℕ → ℕ → Option X
first_between f a b = first_below (λ k. f (a + k)) (b - a)
