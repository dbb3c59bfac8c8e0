use Rattle.std.proofs.Common.{◌≡◌, IfErr, length}
use Rattle.std.specs.Io.{ReadsAtMost}
use Rattle.std.specs.Io.KnownBytes.{ReadConsumes}
use Rattle.image_files.proofs.reading.read_some.Given as goal

-- what the last read gave; an interrupted one takes nothing
abbrev pub invariant-loop : goal.invariant-loop
invariant-loop g l = record {
  same : length l.piece ≡ length l.initial.piece;
  bound : ReadsAtMost l.result l.piece;
  bytes : ReadConsumes (g.R.Read.remaining l.fn.reader) (g.R.Read.remaining l.reader) l.result l.piece;
  failed : IfErr l.result (λ _. g.R.WatchedRead.may_fail l.fn.reader);
  later : g.R.WatchedRead.may_fail l.reader → g.R.WatchedRead.may_fail l.fn.reader;
}
