use Rattle.std.proofs.Common.{◌≡◌, ◌++◌, take}
use Rattle.image_writer.specs.Packing.{full_words, rest_of, waiting_bytes}
use Rattle.image_writer.proofs.text.write_name.Given as goal

abbrev pub invariant-loop-byte : goal.invariant-loop-byte
invariant-loop-byte l =
    (l.words.items ≡ l.initial.words.items ++ full_words (waiting_bytes l.initial.waiting ++ take l.byte-index l.name))
    × (waiting_bytes l.waiting ≡ rest_of (waiting_bytes l.initial.waiting ++ take l.byte-index l.name))
