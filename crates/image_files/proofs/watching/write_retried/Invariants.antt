use Rattle.std.specs.Io.{WritesAtMost}
use Rattle.std.specs.Io.KnownBytes.{WriteAppends}
use Rattle.image_files.proofs.watching.write_retried.Given as goal

-- what the last write did; an interrupted one adds nothing
abbrev pub invariant-loop : goal.invariant-loop
invariant-loop g l = record {
  bound : WritesAtMost l.result l.bytes;
  bytes : WriteAppends (g.W.Write.contents l.fn.writer) (g.W.Write.contents l.writer) l.result l.bytes;
  given : g.W.HeardWrite.gave l.writer l.bytes l.result;
}
