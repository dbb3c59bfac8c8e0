use Rattle.std.proofs.Common.{◌≡◌, ◌++◌, ◌∷◌, [], ℕ, List, length, Some, sym, ap, ◌∙◌, arith}
use Rattle.std.proofs.lemmas.Grind.{common_steps}
use Rattle.gtfs_rows.specs.Tables.{value}
use Rattle.gtfs_rows.specs.Values.{day_of}
use Rattle.gtfs_rows.specs.declared.values.Day.{Day}
use Rattle.gtfs_rows.proofs.laws.service_day_keys.Goals as goal

-- a date has eight bytes
eight_bytes : (text : List ℕ) (d : Day) → day_of text ≡ Some d → length text ≡ 8
eight_bytes text d is = grind (arith, common_steps)

-- what is joined with ends of one length is found from the whole
same_parts : (xs us ys vs : List ℕ) → length ys ≡ length vs → xs ++ ys ≡ us ++ vs → (xs ≡ us) × (ys ≡ vs)
same_parts [] us ys vs long whole = grind (arith, common_steps)
same_parts (x ∷ xs) [] ys vs long whole = grind (arith, common_steps)
same_parts (x ∷ xs) (u ∷ us) ys vs long whole = let rest = same_parts xs us ys vs long in grind (arith, rest)

pub returns : goal.returns
returns c = λ indices r s d e one other same.
    let long = eight_bytes (value indices 1 r) d one ∙ sym (eight_bytes (value indices 1 s) e other) in
    let parts = same_parts (value indices 0 r) (value indices 0 s) (value indices 1 r) (value indices 1 s) long same in
    let days : Some d ≡ Some e = sym one ∙ ap day_of parts.1 ∙ other in
    (parts.0, cc)
