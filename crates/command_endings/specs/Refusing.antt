-- The line of a refusal.
use Rattle.std.specs.Prelude.{ℕ, List, ◌++◌, codes, decimal}

-- a word after a space, and a number after a space
abbrev pub word_text : List ℕ → List ℕ
word_text word = codes " " ++ word

abbrev pub place_text : ℕ → List ℕ
place_text position = codes " " ++ decimal position

-- the number and the name of a refusal
unfoldable pub refusal_head : ℕ → List ℕ → List ℕ
refusal_head number name = (codes "refused " ++ decimal number) ++ word_text name

-- the line of a refusal: its number, its name, and where something is wrong
unfoldable pub refusal_text : ℕ × List ℕ → List ℕ → List ℕ
refusal_text numbered places = refusal_head numbered.0 numbered.1 ++ places ++ codes "\n"
