-- Texts without their case and their accents.
use Rattle.std.specs.Prelude.{ℕ, List, [], chars, encode_utf8, encode_utf8_all, if◌then◌else◌}
use Rattle.std.specs.List.{flat_map}
use Rattle.caseless.specs.Caseless.{default_case_fold}
use Rattle.unicode_normalization.specs.Forms.{nfkd}
use Rattle.unicode_normalization.specs.Lookups.{is_combining_mark}

-- a text with the case of its letters folded
abbrev pub case_folded : List ℕ → List ℕ
case_folded text = encode_utf8_all (default_case_fold (chars text))

-- a text with each letter apart from its accents, and each letter that is only another form of another one as that one
abbrev pub decomposed : List ℕ → List ℕ
decomposed text = encode_utf8_all (nfkd (chars text))

-- a letter, unless it is a combining mark
abbrev pub unless_mark : ℕ → List ℕ
unless_mark letter = if is_combining_mark letter then [] else encode_utf8 letter

abbrev pub without_marks : List ℕ → List ℕ
without_marks text = flat_map unless_mark (chars text)

-- a text without its case and its accents
abbrev pub folded : List ℕ → List ℕ
folded text = without_marks (case_folded (decomposed text))
