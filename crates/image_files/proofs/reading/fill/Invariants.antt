use Rattle.std.proofs.Common.{◌≡◌, ◌≤◌, ◌-◌, length, take}
use Rattle.std.specs.Io.KnownBytes.{Consumes}
use Rattle.image_files.proofs.reading.fill.Given as goal

abbrev pub invariant-pieces : goal.invariant-pieces
invariant-pieces g l = record {
  whole : length l.piece ≡ length l.initial.piece;
  within : l.at ≤ length l.piece;
  filled : Consumes (g.R.Read.remaining l.initial.reader) (g.R.Read.remaining l.reader) (take l.at l.piece);
  later : g.R.WatchedRead.may_fail l.reader → g.R.WatchedRead.may_fail l.initial.reader;
}

abbrev pub decreases-pieces : goal.decreases-pieces
decreases-pieces g l = length l.piece - l.at
