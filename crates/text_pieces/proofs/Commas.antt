-- Texts with commas between them, one by one.
use Rattle.std.proofs.Common.{◌≡◌, ◌<◌, ◌≤◌, ◌+◌, ℕ, List, [], ◌∷◌, ◌++◌, length, map, take, get_or, codes}
use Rattle.std.proofs.Common.{sym, ◌∙◌, ap, append_assoc, arith}
use Rattle.std.specs.List.{flat_map}
use Rattle.std.proofs.lemmas.Grind.{flat_map-append}
use Rattle.std.proofs.lemmas.List.{append-nil, length-map, length-take-le, map-append, take_all, take_more}
use Rattle.text_pieces.specs.Json.{comma_before, with_commas}

-- one more text at the end
commas_push : (xs : List (List ℕ)) (x : List ℕ) → with_commas (xs ++ x ∷ []) ≡ (with_commas xs ++ comma_before (length xs)) ++ x
unfolding with_commas
commas_push [] x = append-nil x
commas_push (y ∷ ys) x =
    let tail : List (List ℕ) → List ℕ = flat_map (λ z. codes "," ++ z) in
    let last : tail (x ∷ []) ≡ codes "," ++ x = append-nil (codes "," ++ x) in
    ap (λ z. y ++ z) (flat_map-append (λ z. codes "," ++ z) ys (x ∷ []) ∙ ap (λ z. tail ys ++ z) last)
    ∙ regroup y (tail ys) (codes ",") x
  where
    regroup : (a b c d : List ℕ) → a ++ (b ++ (c ++ d)) ≡ ((a ++ b) ++ c) ++ d
    regroup a b c d = simp append_assoc

-- the next of some texts, behind a comma unless it is the first
pub commas_more : {A : Type 0} (f : A → List ℕ) (xs : List A) (i : ℕ) (x : A) (old p q s : List ℕ) → i < length xs → x ≡ get_or xs i x
    → p ≡ old ++ with_commas (map f (take i xs)) → q ≡ p ++ comma_before i → s ≡ q ++ f x → s ≡ old ++ with_commas (map f (take (i + 1) xs))
commas_more {A} f xs i x old p q s lt there before comma last =
    let long : length (map f (take i xs)) ≡ i = length-map (take i xs) f ∙ length_of_take i xs (omega (arith, lt)) in
    let grown : map f (take (i + 1) xs) ≡ map f (take i xs) ++ f x ∷ [] =
    ap (map f) (take_more xs i x lt ∙ ap (λ z. take i xs ++ z ∷ []) (sym there)) ∙ map_push f (take i xs) x in
    let made = commas_push (map f (take i xs)) (f x) ∙ ap (λ n. (with_commas (map f (take i xs)) ++ comma_before n) ++ f x) long in
    last ∙ ap (λ z. z ++ f x) (comma ∙ ap (λ z. z ++ comma_before i) before)
    ∙ regroup old (with_commas (map f (take i xs))) (comma_before i) (f x)
    ∙ ap (λ z. old ++ z) (sym made ∙ ap with_commas (sym grown))
  where
    regroup : (a b c d : List ℕ) → ((a ++ b) ++ c) ++ d ≡ a ++ ((b ++ c) ++ d)
    regroup a b c d = simp append_assoc

    length_of_take : (n : ℕ) (ys : List A) → n ≤ length ys → length (take n ys) ≡ n
    length_of_take n ys le = length-take-le n ys le

    map_push : (g : A → List ℕ) (ys : List A) (y : A) → map g (ys ++ y ∷ []) ≡ map g ys ++ g y ∷ []
    map_push g ys y = map-append g ys (y ∷ [])

-- all of them
pub commas_all : {A : Type 0} (f : A → List ℕ) (xs : List A) (i : ℕ) (old now : List ℕ) → length xs ≤ i
    → now ≡ old ++ with_commas (map f (take i xs)) → now ≡ old ++ with_commas (map f xs)
commas_all f xs i old now past is = is ∙ ap (λ ys. old ++ with_commas (map f ys)) (take_all i xs past)
