-- Where a record begins in its file.
use Rattle.std.specs.Prelude.{◌+◌, ◌==◌, ◌||◌, not, if◌then◌else◌, ℕ, zero, suc, List, [], ◌∷◌, Bool}

-- the byte ends a line: LF (10) does, and CR (13) unless LF follows
abbrev pub ends_line : ℕ → List ℕ → Bool
ends_line byte [] = (byte == 10) || (byte == 13)
ends_line byte (next ∷ rest) = if byte == 13 then not (next == 10) else byte == 10

-- how many lines end in the first so many bytes of a text
abbrev pub line_ends : List ℕ → ℕ → ℕ
line_ends [] n = 0
line_ends (b ∷ rest) zero = 0
line_ends (b ∷ rest) (suc n) = if ends_line b rest then line_ends rest n + 1 else line_ends rest n

-- the number of the line in which a byte of a file stands; the first line is 1
abbrev pub line_at : List ℕ → ℕ → ℕ
line_at bytes byte = line_ends bytes byte + 1
