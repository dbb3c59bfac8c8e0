-- Texts escaped for XML.
use Rattle.std.specs.Prelude.{ℕ, zero, suc, List, [], ◌∷◌, ◌++◌, Bool, not, ◌==◌, ◌&&◌, nat_le, if◌then◌else◌, codes, chars}
use Rattle.std.specs.List.{flat_map}
use Rattle.std.specs.Char.{encode_utf8}

-- the characters that are written as they are, unless they are markup: XML allows them, and besides them only tabs and the ends of lines
abbrev pub is_xml : ℕ → Bool
is_xml c = nat_le 32 c && (not (c == 65534) && not (c == 65535))

-- a character, escaped: markup as an entity, and a character that isn't is_xml as the replacement character
abbrev pub escaped_letter : ℕ → List ℕ
escaped_letter c =
    if c == 38 then codes "&amp;"
    else if c == 60 then codes "&lt;"
    else if c == 62 then codes "&gt;"
    else if is_xml c then encode_utf8 c else encode_utf8 65533

abbrev pub escaped : List ℕ → List ℕ
escaped text = flat_map escaped_letter (chars text)

-- the first characters, escaped, and three dots if there are more
abbrev pub cut_letters : ℕ → List ℕ → List ℕ
cut_letters zero [] = []
cut_letters zero (c ∷ letters) = codes "..."
cut_letters (suc n) [] = []
cut_letters (suc n) (c ∷ letters) = escaped_letter c ++ cut_letters n letters

abbrev pub escaped_cut : ℕ → List ℕ → List ℕ
escaped_cut most text = cut_letters most (chars text)
