-- What was read for a line.
use Rattle.std.specs.Prelude.{ℕ, List}
use Rattle.lines.specs.declared.line_reads.LineReads.{LineReads}

abbrev pub reads_of : LineReads → List ℕ
reads_of reads = reads.indices

-- a line that was written, and the indices that were read for it, in the order of reading
pub record WrittenLine : Type 0 where
  pub text : List ℕ
  pub read : List ℕ

abbrev pub written_line : List ℕ → List ℕ → WrittenLine
written_line text read = record { text = text; read = read }
