use Rattle.std.proofs.Common.{◌≡◌, ◌*◌, length, take}
use Rattle.image_layout.specs.Text.{bytes_of}
use Rattle.image_layout.proofs.words.Words.encode.Given as goal

abbrev pub invariant-loop-i : goal.invariant-loop-i
invariant-loop-i l = record {
  count : length l.bytes ≡ length l.initial.bytes;
  spelled : take (4 * l.i) l.bytes ≡ bytes_of (take l.i l.words);
}
