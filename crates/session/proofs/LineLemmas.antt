-- What a session has read, done and written so far, and how it ends.
use Rattle.std.proofs.Common.{◌≡◌, ◌≢◌, ◌⊎◌, ◌<◌, ◌≤◌, ◌+◌, ◌-◌, ℕ, List, [], ◌∷◌, ◌++◌, All, map}
use Rattle.std.proofs.Common.{length, take, Option, Ok, Err, Result, refl, sym, ap, ◌∙◌, subst, append-nil, append_assoc, length-append, arith, inl, inr}
use Rattle.std.proofs.lemmas.List.{flat_map_more, map-append, length-map, take-append-le, take_all, length_push}
use Rattle.std.proofs.lemmas.List.Concat.{flat_map-append}
use Rattle.std.proofs.lemmas.List.Elements.{All-append, All-nil}
use Rattle.std.specs.Io.KnownBytes.{Appends, Consumes, IsAtEnd}
use Rattle.std.proofs.KnownBytes.{Appends-nil, Appends-trans}
use Rattle.lines.specs.Cutting.{IsCut, IsOneLine, lines_of, rest_of, whole_lines}
use Rattle.lines.specs.Reading.{GivesEnded, GivesRest, unread_of}
use Rattle.lines.specs.LineReads.{written_line}
use Rattle.lines.specs.Streams.{AreReadWhile, HasFailed, HasFailedBehind, HasFailedToRead, HasFlushed, HasRead, HasWritten, all_of, inner_of, notes_of}
use Rattle.lines.specs.declared.counted.Counted.{Counted}
use Rattle.lines.specs.declared.reader.LineReader.{LineReader}
use Rattle.lines.proofs.CutLemmas.{IsCut-end, IsCut-last, IsCut-line, IsCut-lines, IsCut-read, IsCut-rest, IsCut-start, IsCut-whole, lines_of-some}
use Rattle.lines.proofs.GivenLemmas.{all_gave}
use Rattle.lines.proofs.StreamLemmas.{failed_consumes, fails_at_line, fails_behind, one_line_more, reads_consume, reads_then}
use Rattle.session.specs.declared.fault.Ended.{Ended}
use Rattle.session.specs.declared.fault.SessionFault.{SessionFault}
use Rattle.shelves.specs.Seats.{SeatValue}
use Rattle.session.specs.SeatSteps.{SeatReply, seat_reply}
use Rattle.session.specs.Replies.{ReplyValue}
use Rattle.session.specs.Sessions.{AnswerLines, AreReadFor, AreShort, AreExchanges, EndsSo, IsCutShort, ServeWords, Serves, SessionState}
use Rattle.session.specs.Sessions.{answered_by, lines_in, replies_in, replies_of, replies_text, session_record_of}
use Rattle.session.specs.Exchanges.{SeatState, Exchange, ExchangeLeadsTo}
use Rattle.session.proofs.ExchangeLemmas.{AreExchanges-more}

-- what is to be read, and what was written, if that is known
abbrev pub unread_in : {R W : Type 0} → ServeWords R W → Counted R (Unit {0}) → Option (List ℕ)
unread_in words reader = words.reads.bytes (inner_of reader)

abbrev pub written_in : {R W S : Type 0} → ServeWords R W → Counted W S → Option (List ℕ)
written_in words writer = words.writes.bytes (inner_of writer)

module _ {R W S : Type 0} (words : ServeWords R W) where
  -- the lines of these reads that were given are answered, and the replies written; these bytes are in no line yet
  pub record SoFar (number : ℕ) (a b : SessionState R W S) (blocks : List (List ℕ)) (unread : List ℕ) (count : ℕ) : Type 0 where
    pub exchanges : List Exchange
    pub cut : IsCut (all_of blocks) (lines_in exchanges) unread
    pub in_turn : AreReadFor count blocks
    pub calls : HasWritten words.writes count a.writer b.writer
    pub writes : Appends (written_in words a.writer) (written_in words b.writer) (replies_text exchanges)
    pub replies : b.replied ≡ a.replied ++ replies_in exchanges
    pub does : AreExchanges words.form number a.at_seat exchanges b.at_seat
    pub many : length exchanges ≡ count
    pub short : AreShort exchanges

  -- and a further line may be read: no read has come to the end
  pub record AtLine (number : ℕ) (a b : SessionState R W S) (unread : List ℕ) (count : ℕ) : Type 0 where
    pub blocks : List (List ℕ)
    pub reads : HasRead words.reads a.reader blocks b.reader
    pub gave : All (λ block. block ≢ []) blocks
    pub so_far : SoFar number a b blocks unread count

  -- this exchange was made, and so much of its reply was written
  pub record IsAnswered (number : ℕ) (b : SessionState R W S) (t : Exchange) (part : List ℕ) (c : SessionState R W S) : Type 0 where
    pub leads : ExchangeLeadsTo words.form number b.at_seat t c.at_seat
    pub replied : c.replied ≡ b.replied ++ seat_reply t.shown t.reply ∷ []
    pub writes : Appends (written_in words b.writer) (written_in words c.writer) part

-- the state once bytes were read, and once an exchange was made and its reply written, perhaps not wholly
abbrev pub read_on : {R W S : Type 0} → SessionState R W S → Counted R (Unit {0}) → SessionState R W S
read_on b reader = record b { reader = reader }

abbrev pub answered_on : {R W S : Type 0} → SessionState R W S → Counted W S → List SeatReply → SeatState → SessionState R W S
answered_on b writer replied at_seat = record b { writer = writer; replied = replied; at_seat = at_seat }

-- the reply of an exchange is one more at the writer
pub replied_more : {W S : Type 0} (shown : S → SeatValue) (before after : Counted W S) (seat : S) (text read : List ℕ) (t : Exchange)
    → notes_of after ≡ notes_of before ++ (seat, (text, read)) ∷ [] → t.shown ≡ shown seat → t.reply ≡ written_line text read
    → replies_of shown after ≡ replies_of shown before ++ seat_reply t.shown t.reply ∷ []
replied_more {W} {S} shown before after seat text read t is shown_is reply_is =
    let reply : S × (List ℕ × List ℕ) → SeatReply = λ note. seat_reply (shown note.0) (written_line note.1.0 note.1.1) in
    let same : seat_reply (shown seat) (written_line text read) ≡ seat_reply t.shown t.reply =
    ap (λ (x : SeatValue). seat_reply x (written_line text read)) (sym shown_is) ∙ ap (λ (r : ReplyValue). seat_reply t.shown r) (sym reply_is) in
    ap (λ (notes : List (S × (List ℕ × List ℕ))). map reply notes) is ∙ map-append reply (notes_of before) ((seat, (text, read)) ∷ [])
    ∙ ap (λ (r : SeatReply). map reply (notes_of before) ++ r ∷ []) same

module _ {R W S : Type 0} {words : ServeWords R W} {number : ℕ} where
  -- the number is that of the seat
  pub is_answered : {n : ℕ} {b c : SessionState R W S} {t : Exchange} {part : List ℕ} → n ≡ number
      → ExchangeLeadsTo words.form n b.at_seat t c.at_seat → c.replied ≡ b.replied ++ seat_reply t.shown t.reply ∷ []
      → Appends (written_in words b.writer) (written_in words c.writer) part → IsAnswered words number b t part c
  is_answered {n} {b} {c} {t} same leads replied writes =
      record { leads = subst (λ (k : ℕ). ExchangeLeadsTo words.form k b.at_seat t c.at_seat) same leads; replied = replied; writes = writes }

  pub AtLine-start : (a : SessionState R W S) (unread : List ℕ) → unread ≡ [] → AtLine words number a a unread 0
  AtLine-start a unread none = record {
    blocks = [];
    reads = (refl, refl);
    gave = All-nil (λ (block : List ℕ). block ≢ []);
    so_far = record {
      exchanges = [];
      cut = subst (λ (xs : List ℕ). IsCut [] [] xs) (sym none) IsCut-start;
      in_turn = inl refl;
      calls = (refl, refl);
      writes = Appends-nil (written_in words a.writer);
      replies = sym (append-nil a.replied);
      does = refl;
      many = refl;
      short = tt;
    };
  }

-- further lines may be answered
AreReadFor-more : (m n : ℕ) (blocks : List (List ℕ)) → m ≤ n → AreReadFor m blocks → AreReadFor n blocks
AreReadFor-more m n blocks le (inl none) = inl none
AreReadFor-more m n blocks le (inr (front, last, is, gave, few)) = inr (front, last, is, gave, omega (arith, le, few))

-- and while there is no whole line that isn't answered, further reads may be made
AreReadFor-then : (count : ℕ) (blocks more given : List (List ℕ)) (unread : List ℕ) → All (λ block. block ≢ []) blocks → AreReadFor count blocks
    → IsCut (all_of blocks) given unread → length given ≡ count → AreReadWhile (λ came. IsOneLine (unread ++ came)) more
    → AreReadFor count (blocks ++ more)
AreReadFor-then count blocks more given unread gave in_turn cut many (inl none) =
    subst (λ (bs : List (List ℕ)). AreReadFor count bs) (sym (ap (λ (bs : List (List ℕ)). blocks ++ bs) none ∙ append-nil blocks)) in_turn
AreReadFor-then count blocks more given unread gave in_turn cut many (inr (front, last, is, front_gave, one)) =
    let came = all_of blocks ++ all_of front in
    let came_is : all_of (blocks ++ front) ≡ came = flat_map-append (λ (block : List ℕ). block) blocks front in
    let whole : whole_lines came ≡ given =
    IsCut-whole came (unread ++ all_of front) given one (IsCut-read (all_of blocks) unread (all_of front) given cut) in
    inr (
      blocks ++ front,
      last,
      ap (λ (bs : List (List ℕ)). blocks ++ bs) is ∙ sym (append_assoc blocks front (last ∷ [])),
      All-append (λ (block : List ℕ). block ≢ []) blocks front gave front_gave,
      omega (
        arith,
        ap (λ (xs : List ℕ). length (whole_lines xs)) came_is,
        ap (λ (ls : List (List ℕ)). length ls) whole,
        many,
      ),
    )

AreShort-more : (exchanges : List Exchange) (t : Exchange) → AreShort exchanges → length t.line ≤ 16_777_216 → AreShort (exchanges ++ t ∷ [])
AreShort-more [] t all short = (short, tt)
AreShort-more (u ∷ exchanges) t all short = (all.0, AreShort-more exchanges t all.1 short)

-- the lines of all that was read, of which so many were given first
first_of : (given rest : List (List ℕ)) (all : List (List ℕ)) → all ≡ given ++ rest → given ≡ take (length given) all
first_of given rest all is = sym (ap (λ (ls : List (List ℕ)). take (length given) ls) is
    ∙ take-append-le (length given) given rest (omega arith) ∙ take_all (length given) given (omega arith))

-- once further reads were made for a line
module _ {R W S : Type 0} {words : ServeWords R W} {number count : ℕ} {a b : SessionState R W S} {unread : List ℕ}
    (reader : Counted R (Unit {0})) (at : AtLine words number a b unread count) (more : List (List ℕ))
    (needed : AreReadWhile (λ came. IsOneLine (unread ++ came)) more) where
  abbrev all : List (List ℕ)
  all = at.blocks ++ more

  abbrev bytes : List ℕ
  bytes = unread ++ all_of more

  abbrev now : SessionState R W S
  now = read_on b reader

  so_far : SoFar words number a now all bytes count
  so_far = record {
    exchanges = at.so_far.exchanges;
    cut = subst (λ (xs : List ℕ). IsCut xs (lines_in at.so_far.exchanges) bytes) (sym (flat_map-append (λ (block : List ℕ). block) at.blocks more))
        (IsCut-read (all_of at.blocks) unread (all_of more) (lines_in at.so_far.exchanges) at.so_far.cut);
    in_turn = AreReadFor-then count at.blocks more (lines_in at.so_far.exchanges) unread at.gave at.so_far.in_turn at.so_far.cut
        (length-map at.so_far.exchanges (λ (u : Exchange). u.line) ∙ at.so_far.many) needed;
    calls = at.so_far.calls;
    writes = at.so_far.writes;
    replies = at.so_far.replies;
    does = at.so_far.does;
    many = at.so_far.many;
    short = at.so_far.short;
  }

  all_read : HasRead words.reads b.reader more reader → HasRead words.reads a.reader all reader
  all_read reads = reads_then words.reads a.reader.inner b.reader.inner reader.inner at.blocks more at.reads reads

  written : HasWritten words.writes (length so_far.exchanges) a.writer b.writer
  written = subst (λ (n : ℕ). HasWritten words.writes n a.writer b.writer) (sym so_far.many) so_far.calls

  -- a session that ends so behind the lines that are answered
  serves_so_far : (result : Result Ended SessionFault) → count ≤ 1_000_000 → count ≤ answered_by result so_far.exchanges
      → Consumes (unread_in words a.reader) (unread_in words reader) (all_of all)
      → EndsSo words result (session_record_of all (replies_text so_far.exchanges) so_far.exchanges a now) → Serves words number result a now
  serves_so_far result few answered consumed ends = record {
    blocks = all;
    written = replies_text so_far.exchanges;
    exchanges = so_far.exchanges;
    reads = consumed;
    in_turn = AreReadFor-more count (answered_by result so_far.exchanges) all answered so_far.in_turn;
    writes = so_far.writes;
    replies = so_far.replies;
    does = so_far.does;
    few = omega (arith, so_far.many, few);
    short = so_far.short;
    ends = ends;
  }

  -- nothing is left
  pub ends_at_end : (ended : Ended) → HasRead words.reads b.reader more reader → count ≤ 1_000_000 → bytes ≡ [] → IsAtEnd (unread_in words reader)
      → Serves words number (Ok ended) a now
  ends_at_end ended reads few none end =
      let given = IsCut-end (all_of all) (lines_in so_far.exchanges)
      (subst (λ (xs : List ℕ). IsCut (all_of all) (lines_in so_far.exchanges) xs) none so_far.cut) in
      serves_so_far (Ok ended) few (omega (arith, so_far.many)) (reads_consume words.reads a.reader.inner reader.inner all (all_read reads).1)
      (end, all_read reads, written, sym given, refl)

  -- a line can't be read: the lines before it are answered
  pub read_fails : HasFailedToRead words.reads b.reader more reader ⊎ (HasRead words.reads b.reader more reader × (length bytes ≡ 16_777_217))
      → count ≤ 1_000_000 → IsOneLine bytes → Serves words number (Err SessionFault.ReadFailed) a now
  read_fails (inl failed) few one =
      let fails = fails_behind words.reads a.reader.inner b.reader.inner reader.inner at.blocks more at.reads failed in
      let whole = sym (IsCut-whole (all_of all) bytes (lines_in so_far.exchanges) one so_far.cut) in
      serves_so_far (Err SessionFault.ReadFailed) few (omega (arith, so_far.many))
      (failed_consumes words.reads a.reader.inner reader.inner all fails.1) (inl fails, written, whole, refl)
  read_fails (inr (reads, long)) few one =
      let rest : rest_of (all_of all) ≡ bytes = IsCut-rest (all_of all) bytes (lines_in so_far.exchanges) one so_far.cut in
      let whole = sym (IsCut-whole (all_of all) bytes (lines_in so_far.exchanges) one so_far.cut) in
      serves_so_far (Err SessionFault.ReadFailed) few (omega (arith, so_far.many))
      (reads_consume words.reads a.reader.inner reader.inner all (all_read reads).1)
      (inr (all_read reads, ap (λ (xs : List ℕ). length xs) rest ∙ long), written, whole, refl)

  -- a million lines are answered, and a byte is there
  pub too_many : HasRead words.reads b.reader more reader → count ≡ 1_000_000 → 0 < length bytes
      → Serves words number (Err SessionFault.TooManyRequests) a now
  too_many reads million some =
      let given = lines_in so_far.exchanges in
      let cut = IsCut-lines (all_of all) bytes given so_far.cut in
      let full : length given ≡ 1_000_000 = length-map so_far.exchanges (λ (u : Exchange). u.line) ∙ so_far.many ∙ million in
      let long : 1_000_000 < length (lines_of (all_of all)) =
      omega (arith, ap (λ (ls : List (List ℕ)). length ls) cut, length-append given (lines_of bytes), lines_of-some bytes some, full) in
      let first = first_of given (lines_of bytes) (lines_of (all_of all)) cut ∙ ap (λ (n : ℕ). take n (lines_of (all_of all))) full in
      serves_so_far (Err SessionFault.TooManyRequests) (omega (arith, million)) (omega (arith, so_far.many))
      (reads_consume words.reads a.reader.inner reader.inner all (all_read reads).1)
      (all_read reads, written, so_far.many ∙ million, long, first, refl)

  module _ {t : Exchange} {part : List ℕ} {writer : Counted W S} {replied : List SeatReply} {at_seat : SeatState}
      (one : IsAnswered words number now t part (answered_on now writer replied at_seat))
      (reads : HasRead words.reads b.reader more reader) where
    abbrev exchanges : List Exchange
    exchanges = so_far.exchanges ++ t ∷ []

    many : length exchanges ≡ count + 1
    many = omega (arith, so_far.many, length_push so_far.exchanges t)

    more_calls : HasFlushed words.writes b.writer writer → HasWritten words.writes (count + 1) a.writer writer
    more_calls flushed = one_line_more words.writes count a.writer b.writer writer so_far.calls flushed

    replies_more : replied ≡ a.replied ++ replies_in exchanges
    replies_more = one.replied ∙ ap (λ (xs : List SeatReply). xs ++ seat_reply t.shown t.reply ∷ []) so_far.replies
        ∙ append_assoc a.replied (replies_in so_far.exchanges) (seat_reply t.shown t.reply ∷ [])
        ∙ ap (λ (xs : List SeatReply). a.replied ++ xs) (sym (map-append (λ (u : Exchange). seat_reply u.shown u.reply) so_far.exchanges (t ∷ [])))

    more_lines : (line : List ℕ) → t.line ≡ line → lines_in exchanges ≡ lines_in so_far.exchanges ++ line ∷ []
    more_lines line is = map-append (λ (u : Exchange). u.line) so_far.exchanges (t ∷ []) ∙ ap (λ (l : List ℕ). lines_in so_far.exchanges ++ l ∷ []) is

    more_text : part ≡ t.reply.text → replies_text so_far.exchanges ++ part ≡ replies_text exchanges
    more_text whole = ap (λ (xs : List ℕ). replies_text so_far.exchanges ++ xs) whole ∙ flat_map_more (λ (u : Exchange). u.reply.text) [] so_far.exchanges t

    more_short : (line : List ℕ) → t.line ≡ line → length line ≤ 16_777_216 → AreShort exchanges
    more_short line is short = AreShort-more so_far.exchanges t so_far.short (subst (λ (l : List ℕ). length l ≤ 16_777_216) (sym is) short)

    more_writes : Appends (written_in words a.writer) (written_in words writer) (replies_text so_far.exchanges ++ part)
    more_writes = Appends-trans (written_in words a.writer) (written_in words b.writer) (written_in words writer)
        (replies_text so_far.exchanges) part so_far.writes one.writes

    -- the line was given of the bytes that were in none
    more_cut : {new : LineReader} (gives : GivesEnded bytes new) → t.line ≡ gives.line → IsCut (all_of all) (lines_in exchanges) (unread_of new)
    more_cut {new} gives is = subst (λ (ls : List (List ℕ)). IsCut (all_of all) ls (unread_of new)) (sym (more_lines gives.line is))
        (IsCut-line (all_of all) bytes gives.line (unread_of new) (lines_in so_far.exchanges) gives.one gives.cut so_far.cut)

    -- all lines are given with this rest
    more_rest : {new : LineReader} → GivesRest bytes new (IsAtEnd (unread_in words reader)) → t.line ≡ bytes → lines_in exchanges ≡ lines_of (all_of all)
    more_rest gives is =
        more_lines bytes is ∙ sym (IsCut-last (all_of all) bytes (lines_in so_far.exchanges) gives.one gives.some so_far.cut)

    -- a session that ends so behind one line more, whose reply is perhaps not written wholly
    serves_one_more : (result : Result Ended SessionFault) (line : List ℕ) → count < 1_000_000 → t.line ≡ line → length line ≤ 16_777_216
        → count ≤ answered_by result exchanges
        → EndsSo words result (session_record_of all (replies_text so_far.exchanges ++ part) exchanges a (answered_on now writer replied at_seat))
        → Serves words number result a (answered_on now writer replied at_seat)
    serves_one_more result line few line_is short answered ends = record {
      blocks = all;
      written = replies_text so_far.exchanges ++ part;
      exchanges = exchanges;
      reads = reads_consume words.reads a.reader.inner reader.inner all (all_read reads).1;
      in_turn = AreReadFor-more count (answered_by result exchanges) all answered so_far.in_turn;
      writes = more_writes;
      replies = replies_more;
      does = AreExchanges-more number a.at_seat b.at_seat at_seat so_far.exchanges t so_far.does one.leads;
      few = omega (arith, many, few);
      short = more_short line line_is short;
      ends = ends;
    }

    -- the rest was the last line
    pub ends_with_rest : {new : LineReader} (ended : Ended) → count < 1_000_000 → GivesRest bytes new (IsAtEnd (unread_in words reader))
        → t.line ≡ bytes → part ≡ t.reply.text → HasFlushed words.writes b.writer writer
        → Serves words number (Ok ended) a (answered_on now writer replied at_seat)
    ends_with_rest ended few gives line_is whole flushed =
        let written = subst (λ (n : ℕ). HasWritten words.writes n a.writer writer) (sym many) (more_calls flushed) in
        serves_one_more (Ok ended) bytes few line_is gives.short (omega (arith, many))
        (gives.end, all_read reads, written, more_rest gives line_is, more_text whole)

    -- a reply isn't wholly written: the lines that were given are answered
    cut_short : (n : ℕ) (line : List ℕ) → part ≡ take n t.reply.text → count < 1_000_000 → t.line ≡ line → length line ≤ 16_777_216
        → AnswerLines exchanges (all_of all) (IsAtEnd (unread_in words reader)) → HasFailed words.writes b.writer writer
        → Serves words number (Err SessionFault.WriteFailed) a (answered_on now writer replied at_seat)
    cut_short n line part_is few line_is short lines failed =
        let part_written = ap (λ (xs : List ℕ). replies_text so_far.exchanges ++ xs) part_is in
        let cut : IsCutShort (replies_text so_far.exchanges ++ part) exchanges =
        record { answered = so_far.exchanges; last = t; count = n; exchanges_are = refl; written_is = part_written } in
        let behind : count ≡ length exchanges - 1 = omega (arith, many) in
        let fails = subst (λ (m : ℕ). HasFailedBehind words.writes m a.writer writer) behind
        (fails_at_line words.writes count a.writer b.writer writer so_far.calls failed) in
        serves_one_more (Err SessionFault.WriteFailed) line few line_is short (omega (arith, many)) (fails, all_read reads, lines, cut)

    pub cut_short_at_line : {new : LineReader} (n : ℕ) → part ≡ take n t.reply.text → count < 1_000_000 → (gives : GivesEnded bytes new)
        → t.line ≡ gives.line → HasFailed words.writes b.writer writer
        → Serves words number (Err SessionFault.WriteFailed) a (answered_on now writer replied at_seat)
    cut_short_at_line {new} n part_is few gives line_is failed =
        let given = lines_in exchanges in
        let whole : whole_lines (all_of all) ≡ given ++ whole_lines (unread_of new ++ []) =
        ap (λ (xs : List ℕ). whole_lines xs) (sym (append-nil (all_of all))) ∙ (more_cut gives line_is).whole [] in
        let first = first_of given (whole_lines (unread_of new ++ [])) (whole_lines (all_of all)) whole in
        cut_short n gives.line part_is few line_is gives.short (inl (length given, first)) failed

    pub cut_short_at_rest : {new : LineReader} (n : ℕ) → part ≡ take n t.reply.text → count < 1_000_000
        → GivesRest bytes new (IsAtEnd (unread_in words reader)) → t.line ≡ bytes → HasFailed words.writes b.writer writer
        → Serves words number (Err SessionFault.WriteFailed) a (answered_on now writer replied at_seat)
    cut_short_at_rest n part_is few gives line_is failed =
        cut_short n bytes part_is few line_is gives.short (inr (gives.end, more_rest gives line_is)) failed

    -- a line is answered and its reply is written, and a further one may be read
    pub AtLine-more : {new : LineReader} (gives : GivesEnded bytes new) → t.line ≡ gives.line → part ≡ t.reply.text
        → HasFlushed words.writes b.writer writer → AtLine words number a (answered_on now writer replied at_seat) (unread_of new) (count + 1)
    AtLine-more {new} gives line_is whole flushed = record {
      blocks = all;
      reads = all_read reads;
      gave = all_gave unread at.blocks more new at.gave needed gives;
      so_far = record {
        exchanges = exchanges;
        cut = more_cut gives line_is;
        in_turn = AreReadFor-more count (count + 1) all (omega arith) so_far.in_turn;
        calls = more_calls flushed;
        writes = subst (λ (xs : List ℕ). Appends (written_in words a.writer) (written_in words writer) xs) (more_text whole) more_writes;
        replies = replies_more;
        does = AreExchanges-more number a.at_seat b.at_seat at_seat so_far.exchanges t so_far.does one.leads;
        many = many;
        short = more_short gives.line line_is gives.short;
      };
    }
