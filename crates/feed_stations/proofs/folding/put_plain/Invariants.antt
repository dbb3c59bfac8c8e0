use Rattle.std.proofs.Common.{◌≡◌, ◌++◌, IsUtf8, chars, string_bytes}
use Rattle.std.specs.List.{flat_map}
use Rattle.std.specs.Str.Iter.{chars_rest}
use Rattle.feed_stations.specs.Folding.{unless_mark, without_marks}
use Rattle.feed_stations.proofs.folding.put_plain.Given as goal

abbrev pub invariant-loop-letter : goal.invariant-loop-letter
invariant-loop-letter l = IsUtf8 (chars_rest l.letter-iterator)
    × (string_bytes l.out ++ flat_map unless_mark (chars (chars_rest l.letter-iterator)) ≡ string_bytes l.fn.out ++ without_marks l.fn.text)
