-- Facts on the digits of numbers.
use Rattle.std.proofs.Common.{◌≡◌, ◌<◌, ◌≤◌, ℕ, List, Bool, true, length, take, get_or, arith}
use Rattle.std.specs.List.{AllPass, prefix_len}
use Rattle.std.proofs.lemmas.List.Sums.{prefix_len_passes}
use Rattle.std.proofs.lemmas.List.{get_or-take, length-take}

-- what stands before the first element that doesn't pass
pub take_passes : (p : ℕ → Bool) (xs : List ℕ) (n : ℕ) → n ≡ prefix_len p xs → n ≤ length xs → AllPass p (take n xs)
take_passes p xs n e h = λ k d less.
    let within : k < n = omega (arith, length-take n xs) in
    let passes : p (get_or xs k d) ≡ true = prefix_len_passes p xs k d (omega (arith, e)) in
    rw (get_or-take n xs k d within) passes
