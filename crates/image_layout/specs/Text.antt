-- Words as bytes: each word is four bytes, the least significant first.
use Rattle.std.specs.Prelude.{ℕ, List, drop}
use Rattle.std.specs.List.{flat_map}
use Rattle.std.specs.Int.{w32, to_le_bytes}
use Rattle.image_layout.specs.Offsets.{header_of, text_offset}

abbrev pub bytes_of : List ℕ → List ℕ
bytes_of words = flat_map (to_le_bytes w32) words

-- the bytes of the names, with the spare bytes of the last word
abbrev pub padded_text_of : List ℕ → List ℕ
padded_text_of w = bytes_of (drop (text_offset (header_of w)) w)
