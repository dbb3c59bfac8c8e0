-- Lines that a stop has only if it has points.
use Rattle.std.proofs.Common.{◌≡◌, ◌<◌, ℕ, List, [], ◌∷◌, ◌++◌, Option, length, refl, arith}
use Rattle.text_pieces.specs.Json.{with_commas}
use Rattle.departure_lines.specs.Json.{json_head, json_if_some, json_tail}

-- a line has a text, if there are points
pub line_if_some : (name : List ℕ) (xs : List (List ℕ)) (walk : Option ℕ) → 0 < length xs
    → (json_head name ++ with_commas xs) ++ json_tail walk ≡ json_if_some name xs walk
line_if_some name [] walk lt = absurd (omega (arith, lt))
line_if_some name (x ∷ xs) walk lt = refl
