use Rattle.std.proofs.Common.{◌≡◌, ◌≤◌, ◌+◌, ◌*◌, ◌-◌, ◌++◌, take}
use Rattle.std.specs.Vec.{vec_len, vec_capacity}
use Rattle.image_layout.specs.Text.{bytes_of}
use Rattle.image_files.proofs.reading.append_words.Given as goal

abbrev pub invariant-loop-i : goal.invariant-loop-i
invariant-loop-i l = record {
  room : vec_len l.words + (l.count - l.i) ≤ vec_capacity l.words;
  spelled : bytes_of l.words.items ≡ bytes_of l.initial.words.items ++ take (4 * l.i) l.bytes;
}
