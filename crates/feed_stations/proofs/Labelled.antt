-- Items of two lists, one by one.
use Rattle.std.proofs.Common.{◌≡◌, List, [], ◌∷◌, ◌++◌}
use Rattle.std.specs.List.{AllZip}
use Rattle.std.proofs.lemmas.Slice.Zip.{all_zipped_more}

-- the next of each
pub one_more : {A B : Type 0} (R : A → B → Type 0) (xs more : List A) (ys grown : List B) (x : A) (y : B) → more ≡ xs ++ x ∷ [] → grown ≡ ys ++ y ∷ []
    → AllZip R xs ys → R x y → AllZip R more grown
one_more R xs more ys grown x y e f zipped is = rw (e, f) (all_zipped_more R xs ys x y zipped is)
