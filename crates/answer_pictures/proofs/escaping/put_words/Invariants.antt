use Rattle.std.proofs.Common.{◌≡◌, ◌++◌, IsUtf8, chars, string_bytes}
use Rattle.std.specs.List.{flat_map}
use Rattle.std.specs.Str.Iter.{chars_rest}
use Rattle.answer_pictures.specs.Words.{escaped, escaped_letter}
use Rattle.answer_pictures.proofs.escaping.put_words.Given as goal

abbrev pub invariant-loop-letter : goal.invariant-loop-letter
invariant-loop-letter l = IsUtf8 (chars_rest l.letter-iterator)
    × (string_bytes l.out ++ flat_map escaped_letter (chars (chars_rest l.letter-iterator)) ≡ string_bytes l.fn.out ++ escaped l.fn.words)
