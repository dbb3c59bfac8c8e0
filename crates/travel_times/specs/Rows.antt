-- Rows, as `csv` writes them.
use Rattle.std.specs.Prelude.{◌≡◌, ◌++◌, ℕ, List, false}
use Rattle.csv.specs.Writing.{default_writer, fields_written, has_written, writer_pending, writer_setup, writer_under}
use Rattle.travel_times.specs.declared.rows.Rows.{Rows}

-- the text of all rows
abbrev pub text_of : Rows → List ℕ
text_of rows = (writer_under rows.writer).items ++ writer_pending rows.writer

-- no row is begun, and they are written as `csv` does by default
pub record AreWhole (rows : Rows) : Type 0 where
  pub setup : writer_setup rows.writer ≡ default_writer
  pub fields : fields_written rows.writer ≡ 0
  pub blank : has_written rows.writer ≡ false

-- a text was added, and no row is begun
pub record Adds (old new : Rows) (text : List ℕ) : Type 0 where
  pub text_is : text_of new ≡ text_of old ++ text
  pub whole : AreWhole new
