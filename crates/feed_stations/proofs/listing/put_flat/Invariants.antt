use Rattle.std.proofs.Common.{◌≡◌, ◌++◌, IsUtf8, chars, string_bytes}
use Rattle.std.specs.List.{flat_map}
use Rattle.std.specs.Str.Iter.{chars_rest}
use Rattle.feed_stations.specs.Listing.{flat_letter, flat_text}
use Rattle.feed_stations.proofs.listing.put_flat.Given as goal

abbrev pub invariant-loop-letter : goal.invariant-loop-letter
invariant-loop-letter l = IsUtf8 (chars_rest l.letter-iterator)
    × (string_bytes l.lines ++ flat_map flat_letter (chars (chars_rest l.letter-iterator)) ≡ string_bytes l.fn.lines ++ flat_text l.fn.text)
