-- Ids in the order in which they were first seen.
use Rattle.std.specs.Prelude.{◌≡◌, ◌∷◌, ◌++◌, [], if◌then◌else◌, List, ℕ, Some, fold}
use Rattle.std.specs.List.{list_any, slice_get}
use Rattle.std.specs.Str.{bytes_eq}

-- the text is at the index
abbrev pub StandsAt : List (List ℕ) → ℕ → List ℕ → Type 0
StandsAt texts k text = slice_get texts k ≡ Some text

-- the texts, with one more at the end unless it is already among them
abbrev pub seen_also : List (List ℕ) → List ℕ → List (List ℕ)
seen_also texts text = if list_any (bytes_eq text) texts then texts else texts ++ text ∷ []

-- the same unless the text is blank, which isn't added
abbrev pub given_also : List (List ℕ) → List ℕ → List (List ℕ)
given_also texts [] = texts
given_also texts (b ∷ rest) = seen_also texts (b ∷ rest)

-- the distinct texts, in the order in which they are first seen
abbrev pub first_seen : List (List ℕ) → List (List ℕ)
first_seen texts = fold seen_also [] texts

-- the distinct texts that aren't blank, in the same order
abbrev pub first_given : List (List ℕ) → List (List ℕ)
first_given texts = fold given_also [] texts
