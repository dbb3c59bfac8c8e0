-- Names of feeds, put into a list one by one.
use Rattle.std.proofs.Common.{◌≡◌, ℕ, ◌+◌, ◌<◌, List, [], ◌∷◌, ◌++◌, length, map, take, get_or, sym, ap, ◌∙◌}
use Rattle.std.proofs.lemmas.List.{map_push, take_more}

-- one more is named, the next
pub named_more : {X Y B : Type 0} (g : Y → B) (f : X → B) (xs : List X) (i : ℕ) (d : X) (ys zs : List Y) (y : Y)
    → i < length xs → map g ys ≡ map f (take i xs) → g y ≡ f (get_or xs i d) → zs ≡ ys ++ y ∷ [] → map g zs ≡ map f (take (i + 1) xs)
named_more g f xs i d ys zs y lt before last grown =
    let one_more : map g ys ++ g y ∷ [] ≡ map f (take i xs) ++ f (get_or xs i d) ∷ [] =
    ap (λ z. z ++ g y ∷ []) before ∙ ap (λ z. map f (take i xs) ++ z ∷ []) last in
    ap (map g) grown ∙ map_push g ys y ∙ one_more ∙ sym (map_push f (take i xs) (get_or xs i d)) ∙ ap (map f) (sym (take_more xs i d lt))
