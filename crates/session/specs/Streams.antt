-- A session's streams.
use Rattle.std.specs.Prelude.{◌≡◌, []}
use Rattle.lines.specs.Streams.{failures_of, inner_of, notes_of}
use Rattle.session.specs.declared.session_server.Streams.{Streams}

-- streams over this reader and this writer, of which no call has failed yet, and to which nothing was replied
pub record AreNew {R W S : Type 0} (reader : R) (writer : W) (streams : Streams R W S) : Type 0 where
  pub reader_is : inner_of streams.reader ≡ reader
  pub writer_is : inner_of streams.writer ≡ writer
  pub no_failed_read : failures_of streams.reader ≡ 0
  pub no_failed_write : failures_of streams.writer ≡ 0
  pub unreplied : notes_of streams.writer ≡ []
