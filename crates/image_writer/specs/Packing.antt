-- A text while it is written: the bytes that fill words, and those that wait for more.
use Rattle.std.specs.Prelude.{ℕ, List, [], ◌∷◌}
use Rattle.std.specs.Int.{w32, from_le_bytes}
use Rattle.image_writer.specs.declared.text.PartialWord.{PartialWord}
use Rattle.image_writer.specs.declared.text.PartialWord.TheVariants.{Empty, One, Two, Three}

-- the words that the bytes fill
abbrev pub full_words : List ℕ → List ℕ
full_words [] = []
full_words (a ∷ []) = []
full_words (a ∷ b ∷ []) = []
full_words (a ∷ b ∷ c ∷ []) = []
full_words (a ∷ b ∷ c ∷ d ∷ rest) = from_le_bytes w32 (a ∷ b ∷ c ∷ d ∷ []) ∷ full_words rest

-- the bytes after them
abbrev pub rest_of : List ℕ → List ℕ
rest_of [] = []
rest_of (a ∷ []) = a ∷ []
rest_of (a ∷ b ∷ []) = a ∷ b ∷ []
rest_of (a ∷ b ∷ c ∷ []) = a ∷ b ∷ c ∷ []
rest_of (a ∷ b ∷ c ∷ d ∷ rest) = rest_of rest

abbrev pub waiting_bytes : PartialWord → List ℕ
waiting_bytes Empty = []
waiting_bytes (One a) = a ∷ []
waiting_bytes (Two a b) = a ∷ b ∷ []
waiting_bytes (Three a b c) = a ∷ b ∷ c ∷ []
