-- How many digits a number has.
use Rattle.std.proofs.Common.{◌≡◌, ◌≤◌, ◌<◌, ◌^◌, ◌∷◌, ℕ, Bool, true, false, List, arith, decimal, length, nat_lt, refl, if◌then◌else◌}
use Rattle.std.proofs.lemmas.Bool.{ltb-true}
use Rattle.std.proofs.lemmas.Fmt.{length-decimal-le}
use Rattle.timetable.specs.Clocks.{two_digits}

padded : (k : ℕ) (digits : List ℕ) (is_short : Bool) → 2 ≤ k → length digits ≤ k → (is_short ≡ true → length digits ≤ 1)
    → length (if is_short then 48 ∷ digits else digits) ≤ k
padded k digits true many long short = let one = short refl in omega (arith, many, one)
padded k digits false many long short = long

pub two_digits_short : (k n : ℕ) → 2 ≤ k → n < 10 ^ k → n < 2 ^ 64 → length (two_digits n) ≤ k
two_digits_short k n many small fits =
    padded k (decimal n) (nat_lt n 10) many (length-decimal-le k n (omega (arith, many)) small fits)
    (λ is. length-decimal-le 1 n (omega arith) (ltb-true n 10 is) fits)
