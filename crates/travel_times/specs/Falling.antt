-- Sums of numbers that fall by one.
use Rattle.std.specs.Prelude.{◌+◌, ℕ, suc, zero}

-- the sum of `count` numbers of which the first is `top` and each other is one less than the one before, but not below 0
unfoldable pub falling : ℕ → ℕ → ℕ
falling zero count = 0
falling (suc top) zero = 0
falling (suc top) (suc count) = suc top + falling top count
