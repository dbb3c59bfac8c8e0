-- Lists of the same fields.
use Rattle.std.proofs.Common.{◌≡◌, ◌∙◌, ℕ, List, ◌∷◌, ap}

pub same_field : {field other : List ℕ} {fields others : List (List ℕ)} → field ≡ other → fields ≡ others → field ∷ fields ≡ other ∷ others
same_field {field} {other} {fields} {others} first rest =
    ap (λ (f : List ℕ). f ∷ fields) first ∙ ap (λ (fs : List (List ℕ)). other ∷ fs) rest
