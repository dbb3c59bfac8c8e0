-- Numbers with one more digit.
use Rattle.std.proofs.Common.{◌≡◌, ℕ, ◌+◌, ◌-◌, ◌*◌, ◌^◌, ◌<◌, ◌≤◌, List, [], ◌∷◌, length, get_or, take, drop, Some, None, Bool, true, ltb}
use Rattle.std.proofs.Common.{ap, ◌∙◌, arith, add-one}
use Rattle.std.specs.List.{list_all, prefix_len}
use Rattle.std.proofs.Math.Seq.{drop-cons}
use Rattle.std.proofs.lemmas.List.{get_or-take, length-take}
use Rattle.std.proofs.lemmas.List.Sums.{prefix_len_passes, list_all-from_AllPass}
use Rattle.std.proofs.lemmas.Bool.{cond-true, cond-false, lt-ltb, le-ltb}
use Rattle.journeys.specs.Reading.{read_on, value_of}

pub read_on-ge : (ds : List ℕ) (n : ℕ) → n ≤ read_on n ds
read_on-ge [] n = omega arith
read_on-ge (d ∷ ds) n = let more = read_on-ge ds (10 * n + (d - 48)) in omega (arith, more)

pub read_on-from : (ds : List ℕ) (i n d : ℕ) → i < length ds → read_on n (drop i ds) ≡ read_on (10 * n + (get_or ds i d - 48)) (drop (i + 1) ds)
read_on-from ds i n d lt = rw (add-one) (ap (read_on n) (drop-cons ds i d lt))

pub value_of-large : (ds : List ℕ) → 2 ^ 32 ≤ read_on 0 ds → value_of ds ≡ None
value_of-large ds le = cond-false (ltb (read_on 0 ds) (2 ^ 32)) (Some (read_on 0 ds)) None (le-ltb (read_on 0 ds) (2 ^ 32) le)

pub value_of-small : (ds : List ℕ) (n : ℕ) → read_on 0 ds ≡ n → n < 2 ^ 32 → value_of ds ≡ Some n
value_of-small ds n e lt =
    cond-true (ltb (read_on 0 ds) (2 ^ 32)) (Some (read_on 0 ds)) None (lt-ltb (read_on 0 ds) (2 ^ 32) (omega (arith, e, lt))) ∙ ap Some e

-- what stands before the first element that doesn't pass does
pub front_passes : (p : ℕ → Bool) (xs : List ℕ) (n : ℕ) → n ≡ prefix_len p xs → list_all p (take n xs) ≡ true
front_passes p xs n e = list_all-from_AllPass p (take n xs) (λ k d less.
    let within : k < n = omega (arith, length-take n xs, less) in
    rw (get_or-take n xs k d within) (prefix_len_passes p xs k d (omega (arith, e, within))))
