use Rattle.std.proofs.Common.{◌≡◌, length}
use Rattle.std.specs.Io.KnownBytes.{Consumes}
use Rattle.image_layout.specs.Text.{bytes_of}
use Rattle.image_files.proofs.reading.words_of.Given as goal

abbrev pub invariant-pieces : goal.invariant-pieces
invariant-pieces g l = record {
  piece : length l.piece ≡ length l.initial.piece;
  spelled : Consumes (g.R.Read.remaining l.initial.reader) (g.R.Read.remaining l.reader) (bytes_of l.words.items);
  later : g.R.WatchedRead.may_fail l.reader → g.R.WatchedRead.may_fail l.initial.reader;
}
