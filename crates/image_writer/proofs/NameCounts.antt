-- The bytes of names, one name after the other.
use Rattle.std.proofs.Common.{◌≡◌, ℕ, zero, suc, ◌+◌, List, [], ◌∷◌, ◌++◌, length, take, map, sym, ap, ◌∙◌, arith}
use Rattle.std.specs.List.{concat, range_with_len}
use Rattle.std.proofs.lemmas.List.{append-nil, append_assoc, length-append, take_all}
use Rattle.std.proofs.lemmas.List.FromFn.{map-range_with_len_more}
use Rattle.std.proofs.lemmas.Option.{same_Some}
use Rattle.timetable.specs.Legal.{At}
use Rattle.image_layout.specs.Spelling.{byte_count_before}

-- one name more
pub text_next : (ns : List (List ℕ)) (i : ℕ) (name : List ℕ) → At ns i name → concat (take (i + 1) ns) ≡ concat (take i ns) ++ name
text_next [] i name at = absurd cc
text_next (x ∷ xs) zero name at = append-nil x ∙ same_Some x name at
text_next (x ∷ xs) (suc i) name at =
    let next : suc i + 1 ≡ suc (i + 1) = omega arith in
    ap (λ (k : ℕ). concat (take k (x ∷ xs))) next
    ∙ ap (λ (t : List ℕ). x ++ t) (text_next xs i name at)
    ∙ sym (append_assoc x (concat (take i xs)) name)

pub count_next : (ns : List (List ℕ)) (i : ℕ) (name : List ℕ) → At ns i name → byte_count_before ns (i + 1) ≡ byte_count_before ns i + length name
count_next ns i name at = ap length (text_next ns i name at) ∙ length-append (concat (take i ns)) name

pub text_whole : (ns : List (List ℕ)) → concat (take (length ns) ns) ≡ concat ns
text_whole ns = ap concat (take_all (length ns) ns (omega arith))

-- the words of an index, one more
pub index_next : (start words : List ℕ) (f : ℕ → ℕ) (i x : ℕ) → words ≡ start ++ map f (range_with_len 0 i) → x ≡ f i
    → words ++ x ∷ [] ≡ start ++ map f (range_with_len 0 (i + 1))
index_next start words f i x so_far is =
    ap (λ (ws : List ℕ). ws ++ x ∷ []) so_far
    ∙ append_assoc start (map f (range_with_len 0 i)) (x ∷ [])
    ∙ ap (λ (y : ℕ). start ++ (map f (range_with_len 0 i) ++ y ∷ [])) is
    ∙ ap (λ (ws : List ℕ). start ++ ws) (sym (map-range_with_len_more f 0 i i (omega arith)))
