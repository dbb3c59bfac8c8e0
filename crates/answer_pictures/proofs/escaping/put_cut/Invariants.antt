use Rattle.std.proofs.Common.{◌≡◌, ◌++◌, IsUtf8, chars, string_bytes}
use Rattle.std.specs.Str.Iter.{chars_rest}
use Rattle.answer_pictures.specs.Words.{cut_letters, escaped_cut}
use Rattle.answer_pictures.proofs.escaping.put_cut.Given as goal

abbrev pub invariant-loop-letter : goal.invariant-loop-letter
invariant-loop-letter l = IsUtf8 (chars_rest l.letter-iterator)
    × (string_bytes l.out ++ cut_letters l.room (chars (chars_rest l.letter-iterator)) ≡ string_bytes l.fn.out ++ escaped_cut l.fn.most l.fn.words)
