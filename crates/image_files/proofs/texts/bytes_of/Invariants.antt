use Rattle.std.specs.Io.KnownBytes.{Consumes}
use Rattle.image_files.proofs.texts.bytes_of.Given as goal

-- what was read so far
abbrev pub invariant-pieces : goal.invariant-pieces
invariant-pieces g l = record {
  read : Consumes (g.R.Read.remaining l.initial.reader) (g.R.Read.remaining l.reader) l.bytes.items;
  later : g.R.WatchedRead.may_fail l.reader → g.R.WatchedRead.may_fail l.initial.reader;
}
