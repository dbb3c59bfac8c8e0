-- Records taken one at a time.
use Rattle.std.proofs.Common.{◌≡◌, ◌+◌, ◌<◌, ◌≤◌, ◌∷◌, ◌++◌, ℕ, zero, suc, List, [], length, take, drop, get_or, Some, None, refl, ◌∙◌, arith}
use Rattle.std.proofs.lemmas.Grind.{common_steps}
use Rattle.std.proofs.lemmas.List.{length-take}
use Rattle.gtfs_rows.specs.Source.{Record}
use Rattle.gtfs_rows.specs.Faults.{Judge, first_fault}
use Rattle.gtfs_rows.specs.declared.fault.FaultKind.{FaultKind}

-- what is left begins with the element at the index
pub opened : {A : Type 0} (d : A) (n : ℕ) (all rest : List A) (r : A) → drop n all ≡ r ∷ rest
    → (n < length all) × (get_or all n d ≡ r) × (drop (n + 1) all ≡ rest) × (take (n + 1) all ≡ take n all ++ r ∷ [])
opened d zero [] rest r e = cc
opened d (suc n) [] rest r e = cc
opened d zero (x ∷ xs) rest r e = grind (arith, common_steps)
opened d (suc n) (x ∷ xs) rest r e =
    let more = opened d n xs rest r e in
    let s : suc n + 1 ≡ suc (n + 1) = omega arith in
    rw s (grind (arith, common_steps, more))

-- nothing is left
pub closed : {A : Type 0} (n : ℕ) (all : List A) → drop n all ≡ [] → (length all ≤ n) × (take n all ≡ all)
closed n [] e = grind (arith, common_steps)
closed zero (x ∷ xs) e = cc
closed (suc n) (x ∷ xs) e = let more = closed n xs e in grind (arith, more)

-- a record without a fault, and the first one that has one
pub judged : (judge : Judge) (all rest : List Record) (n : ℕ) (r : Record) → drop n all ≡ r ∷ rest
    → first_fault judge [] all ≡ first_fault judge (take n all) (r ∷ rest)
    → (judge (take n all) r ≡ None → first_fault judge [] all ≡ first_fault judge (take (n + 1) all) rest)
    × ((kind : FaultKind) → judge (take n all) r ≡ Some kind → first_fault judge [] all ≡ Some (n + 1, kind))
judged judge all rest n r e same =
    let (less, head, after, more) = opened [] n all rest r e in
    let long : length (take n all) ≡ n = omega (arith, length-take n all) in
    (λ good. same ∙ (rw (good, more) refl), λ kind bad. same ∙ (rw (bad, long) refl))
