-- A session: exchanges one after the other, one for each line that was read.
use Rattle.std.specs.Prelude.{◌≡◌, ◌≢◌, ◌<◌, ◌≤◌, ◌⊎◌, ◌++◌, ◌-◌, ◌∷◌, ℕ, List, [], None, flat_map, length, map, take, Result, Ok, Err}
use Rattle.std.specs.Io.KnownBytes.{Appends, Consumes, IsAtEnd}
use Rattle.shelves.specs.declared.answers.SeatAnswer.{SeatAnswer}
use Rattle.shelves.specs.Seats.{SeatValue}
use Rattle.orders.specs.Ordering.{OrderValue}
use Rattle.lines.specs.LineReads.{written_line}
use Rattle.lines.specs.Streams.{AreReadWhile, HasFailedBehind, HasFailedToRead, HasRead, HasWritten, StreamWords, all_of, inner_of, notes_of}
use Rattle.lines.specs.declared.counted.Counted.{Counted}
use Rattle.lines.specs.Cutting.{lines_of, rest_of, whole_lines}
use Rattle.session.specs.declared.reply_form.ReplyForm.{ReplyForm}
use Rattle.session.specs.declared.fault.Ended.{Ended}
use Rattle.session.specs.declared.fault.SessionFault.{SessionFault}
use Rattle.session.specs.SeatSteps.{AnswerStep, SeatMove, SeatReply, seat_reply}
use Rattle.session.specs.Exchanges.{SeatState, Exchange, ExchangeLeadsTo}

-- exchanges one after the other: each begins with the seat and the orders as the one before left them
abbrev pub AreExchanges : ReplyForm → ℕ → SeatState → List Exchange → SeatState → Type 0
AreExchanges form number a [] b = b ≡ a
AreExchanges form number a (t ∷ exchanges) b = (m : SeatState) × ExchangeLeadsTo form number a t m × AreExchanges form number m exchanges b

abbrev pub lines_in : List Exchange → List (List ℕ)
lines_in exchanges = map (λ t. t.line) exchanges

-- the replies, end to end
abbrev pub replies_text : List Exchange → List ℕ
replies_text exchanges = flat_map (λ t. t.reply.text) exchanges

-- the replies, each with what the seat showed when it was written, and what was read for it
abbrev pub replies_in : List Exchange → List SeatReply
replies_in exchanges = map (λ t. seat_reply t.shown t.reply) exchanges

abbrev pub moves_of : List Exchange → List SeatMove
moves_of exchanges = flat_map (λ t. t.moves) exchanges

abbrev pub orders_of : List Exchange → List OrderValue
orders_of exchanges = flat_map (λ t. t.orders) exchanges

-- no line is longer than 16,777,216 bytes
abbrev pub AreShort : List Exchange → Type 0
AreShort [] = Unit {0}
AreShort (t ∷ exchanges) = (length t.line ≤ 16_777_216) × AreShort exchanges

-- all replies but the last are written, and of the last one its first `count` bytes, perhaps all; no exchange follows it
pub record IsCutShort (written : List ℕ) (exchanges : List Exchange) : Type 0 where
  pub answered : List Exchange
  pub last : Exchange
  pub count : ℕ  -- of the bytes of the last reply
  pub exchanges_are : exchanges ≡ answered ++ last ∷ []
  pub written_is : written ≡ replies_text answered ++ take count last.reply.text

-- what contracts say of a session: the form of its replies, its reader and its writer
pub record ServeWords (R W : Type 0) : Type 1 where
  pub form : ReplyForm
  pub reads : StreamWords R
  pub writes : StreamWords W

abbrev pub serve_words : {R W : Type 0} → ReplyForm → StreamWords R → StreamWords W → ServeWords R W
serve_words form reads writes = record { form = form; reads = reads; writes = writes }

-- what a session changes: its reader and its writer, what was replied, with what the seat showed then, the seat and the orders
pub record SessionState (R W S : Type 0) : Type 0 where
  pub reader : Counted R (Unit {0})
  pub writer : Counted W S
  pub replied : List SeatReply
  pub at_seat : SeatState

-- the replies that this writer was given, each with what was read for it, and what its seat showed when it was written
abbrev pub replies_of : {W S : Type 0} → (S → SeatValue) → Counted W S → List SeatReply
replies_of shown writer = map (λ note. seat_reply (shown note.0) (written_line note.1.0 note.1.1)) (notes_of writer)

-- over this reader and this writer, by what a seat shows
abbrev pub state_of : {R W S : Type 0} → (S → SeatValue) → Counted R (Unit {0}) → Counted W S → SeatState → SessionState R W S
state_of shown reader writer at_seat = record { reader = reader; writer = writer; replied = replies_of shown writer; at_seat = at_seat }

-- what was read and written in a session and its exchanges, from one state to another
pub record SessionRecord (R W S : Type 0) : Type 0 where
  pub blocks : List (List ℕ)  -- what each read gave
  pub written : List ℕ
  pub exchanges : List Exchange
  pub before : SessionState R W S
  pub after : SessionState R W S

abbrev pub session_record_of : {R W S : Type 0} → List (List ℕ) → List ℕ → List Exchange → SessionState R W S → SessionState R W S
    → SessionRecord R W S
session_record_of blocks written exchanges before after = record {
  blocks = blocks;
  written = written;
  exchanges = exchanges;
  before = before;
  after = after;
}

abbrev pub read_in : {R W S : Type 0} → SessionRecord R W S → List ℕ
read_in e = all_of e.blocks

-- how many lines were answered by replies that were wholly written
abbrev pub answered_by : Result Ended SessionFault → List Exchange → ℕ
answered_by (Err SessionFault.WriteFailed) exchanges = length exchanges - 1
answered_by _ exchanges = length exchanges

-- reads were made only while no more whole lines had come than are answered when the session ends. This binds each read, since any write may be the one that
-- fails and ends the session: so code that is right with every writer has answered each whole line before it reads on
abbrev pub AreReadFor : ℕ → List (List ℕ) → Type 0
AreReadFor answered blocks = AreReadWhile (λ read. length (whole_lines read) ≤ answered) blocks

-- lines of what was read are answered, from the first on: some of those that have a line end; or, if the reader is at its end, all of them, of
-- which the last needs no line end
abbrev pub AnswerLines : List Exchange → List ℕ → Type 0 → Type 0
AnswerLines exchanges read at_end = ((n : ℕ) × (lines_in exchanges ≡ take n (whole_lines read))) ⊎ (at_end × (lines_in exchanges ≡ lines_of read))

-- at the end what is held is given back
abbrev pub LastRelease : ℕ → SeatValue → SeatValue → Type 0
LastRelease number a b = ((a.held ≡ None) × (b ≡ a)) ⊎ ((a.held ≢ None) × AnswerStep number a SeatAnswer.Released b)

module _ {R W S : Type 0} (words : ServeWords R W) where
  abbrev pub ReadsWork : SessionRecord R W S → Type 0
  ReadsWork e = HasRead words.reads e.before.reader e.blocks e.after.reader

  -- each reply is written with a flush of its own
  abbrev pub WritesWork : SessionRecord R W S → Type 0
  WritesWork e = HasWritten words.writes (length e.exchanges) e.before.writer e.after.writer

  -- how the exchanges agree with what was read and written, by how the session ended
  abbrev pub EndsSo : Result Ended SessionFault → SessionRecord R W S → Type 0
  -- all is read and answered
  EndsSo (Ok ended) e =
      IsAtEnd (words.reads.bytes (inner_of e.after.reader)) × ReadsWork e × WritesWork e × (lines_in e.exchanges ≡ lines_of (read_in e))
      × (e.written ≡ replies_text e.exchanges)
  -- the last read failed, or a line went on past 16,777,216 bytes, of which one byte more was read; all whole lines before that are answered
  EndsSo (Err SessionFault.ReadFailed) e =
      (HasFailedToRead words.reads e.before.reader e.blocks e.after.reader ⊎ (ReadsWork e × (length (rest_of (read_in e)) ≡ 16_777_217)))
      × WritesWork e × (lines_in e.exchanges ≡ whole_lines (read_in e)) × (e.written ≡ replies_text e.exchanges)
  -- the last write or flush failed: lines that were read are answered, and the last reply is perhaps not written wholly
  EndsSo (Err SessionFault.WriteFailed) e =
      HasFailedBehind words.writes (length e.exchanges - 1) e.before.writer e.after.writer × ReadsWork e
      × AnswerLines e.exchanges (read_in e) (IsAtEnd (words.reads.bytes (inner_of e.after.reader))) × IsCutShort e.written e.exchanges
  -- the first million lines are answered, and a byte behind them was read
  EndsSo (Err SessionFault.TooManyRequests) e =
      ReadsWork e × WritesWork e × (length e.exchanges ≡ 1_000_000) × (1_000_000 < length (lines_of (read_in e)))
      × (lines_in e.exchanges ≡ take 1_000_000 (lines_of (read_in e))) × (e.written ≡ replies_text e.exchanges)

  -- what a session reads, does and writes: a million lines at most. The seat shows at each reply what the exchanges up to that one made of it
  pub record Serves (number : ℕ) (result : Result Ended SessionFault) (a b : SessionState R W S) : Type 0 where
    pub blocks : List (List ℕ)  -- what each read gave
    pub written : List ℕ
    pub exchanges : List Exchange
    pub reads : Consumes (words.reads.bytes (inner_of a.reader)) (words.reads.bytes (inner_of b.reader)) (all_of blocks)
    pub in_turn : AreReadFor (answered_by result exchanges) blocks
    pub writes : Appends (words.writes.bytes (inner_of a.writer)) (words.writes.bytes (inner_of b.writer)) written
    pub replies : b.replied ≡ a.replied ++ replies_in exchanges
    pub does : AreExchanges words.form number a.at_seat exchanges b.at_seat
    pub few : length exchanges ≤ 1_000_000
    pub short : AreShort exchanges
    pub ends : EndsSo result (session_record_of blocks written exchanges a b)
