-- Parts with the code of a line feed between them, one by one.
use Rattle.std.proofs.Common.{◌≡◌, ◌<◌, ◌≤◌, ◌+◌, ◌∙◌, ℕ, zero, suc, List, [], ◌∷◌, ◌++◌, append-nil, append_assoc, ap, arith, codes, get_or, length, map}
use Rattle.std.proofs.Common.{Some, option_map, refl, slice_get, sym, take}
use Rattle.std.specs.List.{flat_map}
use Rattle.std.proofs.lemmas.Grind.{flat_map-append}
use Rattle.std.proofs.lemmas.List.{length-map, length-take-le, take_all, take_more}
use Rattle.std.proofs.lemmas.Option.{get_or_from_slice_get, slice_get-get_or, slice_get-map, slice_get_within}
use Rattle.image_files.specs.Naming.{code_before, with_codes}

pub no_part : with_codes [] ≡ []
unfolding with_codes
no_part = refl

-- one part more
codes_more : (parts : List (List ℕ)) (index : ℕ) (part : List ℕ) → length parts ≡ index
    → with_codes (parts ++ part ∷ []) ≡ with_codes parts ++ (code_before index ++ part)
unfolding with_codes
codes_more [] zero part long = append-nil part
codes_more [] (suc index) part long = absurd (omega (arith, long))
codes_more (first ∷ parts) zero part long = absurd (omega (arith, long))
codes_more (first ∷ parts) (suc index) part long =
    let after : List (List ℕ) → List ℕ = flat_map (λ other. codes "\\u000a" ++ other) in
    ap (λ (x : List ℕ). first ++ x)
    (flat_map-append (λ other. codes "\\u000a" ++ other) parts (part ∷ [])
    ∙ ap (λ (x : List ℕ). after parts ++ x) (append-nil (codes "\\u000a" ++ part)))
    ∙ sym (append_assoc first (after parts) (codes "\\u000a" ++ part))

-- the next of some parts, after the code of a line feed if it isn't the first
pub part_more : {A : Type 0} (f : A → List ℕ) (items : List A) (index : ℕ) (d : A) (old new : List ℕ) → index < length items
    → old ≡ with_codes (take index (map f items)) → new ≡ old ++ (code_before index ++ f (get_or items index d))
    → new ≡ with_codes (take (index + 1) (map f items))
part_more f items index d old new less so_far is =
    let part = f (get_or items index d) in
    let front = take index (map f items) in
    let long = length-map items f in
    let short : length front ≡ index = length-take-le index (map f items) (omega (arith, less, long)) in
    is ∙ ap (λ (x : List ℕ). x ++ (code_before index ++ part)) so_far ∙ sym (codes_more front index part short)
    ∙ ap with_codes (sym (more (map f items) index part (slice_get-map f items index ∙ ap (option_map f) (slice_get-get_or items index d less))))
  where
    more : (parts : List (List ℕ)) (n : ℕ) (x : List ℕ) → slice_get parts n ≡ Some x → take (n + 1) parts ≡ take n parts ++ x ∷ []
    more parts n x at =
        take_more parts n x (slice_get_within parts n x at) ∙ ap (λ (z : List ℕ). take n parts ++ z ∷ []) (get_or_from_slice_get parts n x x at)

pub all_parts : (parts : List (List ℕ)) (index : ℕ) (text : List ℕ) → length parts ≤ index → text ≡ with_codes (take index parts)
    → text ≡ with_codes parts
all_parts parts index text past is = is ∙ ap with_codes (take_all index parts past)
