-- Parts of arrays and objects of JSON.
use Rattle.std.specs.Prelude.{ℕ, zero, suc, List, [], ◌∷◌, ◌++◌, codes}
use Rattle.std.specs.List.{flat_map}
use Rattle.serde_json.specs.Data.{string}
use Rattle.serde_json.specs.Written.{compact_text}

-- a word, such as the beginning of a member, and a text as a string
unfoldable pub quoted_text : List ℕ → List ℕ → List ℕ
quoted_text word text = word ++ compact_text (string text)

-- a comma before each text but the first
abbrev pub comma_before : ℕ → List ℕ
comma_before zero = []
comma_before (suc index) = codes ","

-- texts with a comma between them
unfoldable pub with_commas : List (List ℕ) → List ℕ
with_commas [] = []
with_commas (x ∷ xs) = x ++ flat_map (λ y. codes "," ++ y) xs
