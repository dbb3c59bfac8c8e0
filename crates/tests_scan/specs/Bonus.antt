-- A number less a bonus: what the laws of a criterion with one rest on.
use Rattle.std.proofs.Common.{◌≡◌, ℕ, ◌-◌, true, nat_le, nat_lt, arith}
use Rattle.std.proofs.lemmas.Bool.{le-leb, leb-true, lt-ltb, ltb-true}

pub less_monotone : (bonus a b : ℕ) → nat_le a b ≡ true → nat_le (a - bonus) (b - bonus) ≡ true
less_monotone bonus a b h = let le = leb-true a b h in le-leb (a - bonus) (b - bonus) (omega (arith, le))

pub less_below : (bonus a limit : ℕ) → nat_lt a limit ≡ true → nat_lt (a - bonus) limit ≡ true
less_below bonus a limit h = let lt = ltb-true a limit h in lt-ltb (a - bonus) limit (omega (arith, lt))
