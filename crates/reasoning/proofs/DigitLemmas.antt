-- Numbers by their digits.
use Rattle.std.proofs.Common.{ℕ, ◌<◌, ◌≤◌, ◌^◌, arith, lit<}
use Rattle.std.proofs.Math.Nat.{pow-le-pow_right}

-- up to eight digits spell less than 100,000,000
pub few_digits : (number digits : ℕ) → digits < 9 → number < 10 ^ digits → number < 10 ^ 8
few_digits number digits few h =
    let more : 10 ^ digits ≤ 10 ^ 8 = pow-le-pow_right {n = 10} (lit< tt) {i = digits} {j = 8} (omega arith) in
    omega arith
