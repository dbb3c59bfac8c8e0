use Rattle.std.proofs.Common.{◌≡◌, ◌*◌, length, take}
use Rattle.image_layout.specs.Text.{bytes_of}
use Rattle.image_layout.proofs.words.Words.decode.Given as goal

abbrev pub invariant-loop-i : goal.invariant-loop-i
invariant-loop-i l = record {
  count : length l.words ≡ length l.initial.words;
  spelled : bytes_of (take l.i l.words) ≡ take (4 * l.i) l.bytes;
}
