use Rattle.std.proofs.Common.{length, ◌-◌, ◌≤◌, take}
use Rattle.std.specs.Io.KnownBytes.{Appends}
use Rattle.lines.specs.Streams.{AllWork}
use Rattle.lines.proofs.counted.write_whole.Given as goal

abbrev pub invariant-loop-written : goal.invariant-loop-written
invariant-loop-written g l =
    let words = g.Out.WriteStream.words in
    record {
      within : l.written ≤ length l.line;
      bytes : Appends (words.bytes l.fn.writer) (words.bytes l.writer) (take l.written l.line);
      calls : AllWork words l.fn.writer l.writer;
    }

abbrev pub decreases-loop-written : goal.decreases-loop-written
decreases-loop-written g l = length l.line - l.written
