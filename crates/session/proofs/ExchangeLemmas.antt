-- Exchanges: one line, and lines one after the other.
use Rattle.std.proofs.Common.{◌≡◌, ◌⊎◌, ◌≤◌, ℕ, Bool, true, false, List, [], ◌∷◌, ◌++◌, length, refl, sym, ap, ◌∙◌, subst, append_assoc, append-nil, inl, inr}
use Rattle.serde_json.specs.Data.{Data}
use Rattle.shelves.specs.Seats.{SeatValue}
use Rattle.lines.specs.Showing.{ShowsLine}
use Rattle.lines.specs.declared.text.Line.{Line}
use Rattle.lines.specs.declared.text.Line.TheVariants.{Whole, TooLong}
use Rattle.orders.specs.Ordering.{OrderValue}
use Rattle.session_texts.specs.Judging.{IsJson, IsNoJson}
use Rattle.session_texts.specs.Requests.{Asks, RequestValue, load, request_value}
use Rattle.session_texts.specs.declared.requests.Request.{Request}
use Rattle.session_texts.specs.declared.refusals.Refusal.{Refusal}
use Rattle.session.specs.declared.reply_form.ReplyForm.{ReplyForm}
use Rattle.session.specs.Lines.{too_long, no_json, no_request, asks, IsLineMeaning, memory_line, refusal_line}
use Rattle.session.specs.SeatSteps.{Follows}
use Rattle.session.specs.Sessions.{AreExchanges, moves_of, orders_of}
use Rattle.session.specs.Exchanges.{Deed, SeatState, IsLoaded, IsMet, IsExchange, OrderIsMet, Exchange, ExchangeLeadsTo, deed_of, seat_state, replied_to}
use Rattle.session.specs.Replies.{ReplyValue, plain}
use Rattle.session.proofs.SeatLemmas.{Follows-append}

-- there is such an exchange of this line and this reply
abbrev pub HasTurn : ReplyForm → ℕ → List ℕ → ReplyValue → SeatValue → List OrderValue → SeatValue → List OrderValue → Type 0
HasTurn form number line reply a asked b asked_then =
    (t : Exchange) × (t.line ≡ line) × (t.reply ≡ reply) × ExchangeLeadsTo form number (seat_state a asked) t (seat_state b asked_then)

-- a line, what was done for it, and what the seat shows then
abbrev exchange_of : List ℕ → Deed → SeatValue → Exchange
exchange_of line d shown = record { line = line; moves = d.moves; orders = d.orders; reply = d.reply; shown = shown }

-- the whole line is there
pub whole : (shown : Line) (bytes : _) (line : List ℕ) → shown ≡ Whole bytes → ShowsLine shown line → (bytes.now ≡ line) × (length line ≤ 65_536)
whole shown bytes line is shows = subst (λ (x : Line). ShowsLine x line) is shows

-- it asks this, which is one of these requests
pub asks_line : {shown known : Request} (sets : Bool) (bytes line : List ℕ) (d : Data) → (bytes ≡ line) × (length line ≤ 65_536) → IsJson bytes d
    → shown ≡ known → Asks sets d (request_value shown) → IsLineMeaning sets line (asks (request_value known))
asks_line {shown} {known} sets bytes line d here json is asks_it =
    (here.1, (d, subst (λ (xs : List ℕ). IsJson xs d) here.0 json, subst (λ (r : Request). Asks sets d (request_value r)) is asks_it))

-- and a load is waited for, or isn't
pub waits_as : (sets : Bool) (line feed : List ℕ) (waits known : Bool) → waits ≡ known → IsLineMeaning sets line (asks (load feed waits))
    → IsLineMeaning sets line (asks (load feed known))
waits_as sets line feed waits known is asked = subst (λ (w : Bool). IsLineMeaning sets line (asks (load feed w))) is asked

module _ {form : ReplyForm} {number : ℕ} {a : SeatValue} {asked : List OrderValue} {line : List ℕ} where
  has_exchange : (b : SeatValue) (asked_then : List OrderValue) (d : Deed) → IsExchange form a.held (exchange_of line d b) → Follows number a d.moves b
      → asked_then ≡ asked ++ d.orders → HasTurn form number line d.reply a asked b asked_then
  has_exchange b asked_then d is seat orders =
      let leads : ExchangeLeadsTo form number (seat_state a asked) (exchange_of line d b) (seat_state b asked_then) =
      record { is = is; seat = seat; shown = refl; orders = orders } in
      (exchange_of line d b, refl, refl, leads)

  -- nothing was done
  idle_exchange : (reply : ReplyValue) → IsExchange form a.held (exchange_of line (deed_of [] [] reply) a) → HasTurn form number line reply a asked a asked
  idle_exchange reply is = has_exchange a asked (deed_of [] [] reply) is refl (sym (append-nil asked))

  pub memory_exchange : (reply : ReplyValue) → reply ≡ plain memory_line → HasTurn form number line reply a asked a asked
  memory_exchange reply fact = idle_exchange reply (inl (fact, refl, refl))

  pub too_long_exchange : (shown : Line) (reply : ReplyValue) → shown ≡ TooLong → ShowsLine shown line → reply ≡ plain (refusal_line Refusal.LineTooLong)
      → HasTurn form number line reply a asked a asked
  too_long_exchange shown reply is shows fact =
      idle_exchange reply (inr (too_long, subst (λ (x : Line). ShowsLine x line) is shows, inr (refl, refl, fact)))

  pub bad_json_exchange : (bytes : List ℕ) (reply : ReplyValue) → (bytes ≡ line) × (length line ≤ 65_536)
      → IsNoJson bytes → reply ≡ plain (refusal_line Refusal.BadJson)
      → HasTurn form number line reply a asked a asked
  bad_json_exchange bytes reply here bad fact = idle_exchange reply (inr (no_json, (here.1, subst IsNoJson here.0 bad), inr (refl, refl, fact)))

  pub bad_request_exchange : (bytes : List ℕ) (reply : ReplyValue) (d : Data) → (bytes ≡ line) × (length line ≤ 65_536) → IsJson bytes d
      → ((request : RequestValue) → ¬ Asks form.sets d request)
      → reply ≡ plain (refusal_line Refusal.BadRequest) → HasTurn form number line reply a asked a asked
  bad_request_exchange bytes reply d here json none fact =
      idle_exchange reply (inr (no_request, (here.1, (d, subst (λ (xs : List ℕ). IsJson xs d) here.0 json, none)), inr (refl, refl, fact)))

  -- a request of the seat is met
  pub seat_exchange : (b : SeatValue) (reply : ReplyValue) (request : RequestValue) → IsLineMeaning form.sets line (asks request)
      → IsMet form number a (replied_to (asks request) reply) b → HasTurn form number line reply a asked b asked
  seat_exchange b reply request is met =
      has_exchange b asked (deed_of met.moves [] reply) (inr (asks request, is, met.meets)) met.seat (sym (append-nil asked))

  -- a feed is ordered
  pub order_exchange : (asked_then put : List OrderValue) (reply : ReplyValue) (feed : List ℕ) → IsLineMeaning form.sets line (asks (load feed false))
      → asked_then ≡ asked ++ put → OrderIsMet feed put reply ⊎ ((put ≡ []) × (reply ≡ plain memory_line)) → HasTurn form number line reply a asked a asked_then
  order_exchange asked_then put reply feed is grown (inl met) =
      has_exchange a asked_then (deed_of [] put reply) (inr (asks (load feed false), is, inr (refl, met))) refl grown
  order_exchange asked_then put reply feed is grown (inr memory) =
      has_exchange a asked_then (deed_of [] put reply) (inl (memory.1, memory.0, refl)) refl grown

  -- and is waited for
  pub load_exchange : (b : SeatValue) (asked_then : List OrderValue) (d : Deed) (reply : ReplyValue) (feed : List ℕ)
      → IsLineMeaning form.sets line (asks (load feed true))
      → d.reply ≡ reply → asked_then ≡ asked ++ d.orders → IsLoaded number a feed d b → HasTurn form number line reply a asked b asked_then
  load_exchange b asked_then d reply feed is same grown loaded =
      let exchange = has_exchange b asked_then d (inr (asks (load feed true), is, inr loaded.meets)) loaded.seat grown in
      (exchange.0, exchange.1, exchange.2 ∙ same, exchange.3)

-- exchanges, and one more
pub AreExchanges-more : {form : ReplyForm} (number : ℕ) (a m b : SeatState) (exchanges : List Exchange) (t : Exchange)
    → AreExchanges form number a exchanges m → ExchangeLeadsTo form number m t b → AreExchanges form number a (exchanges ++ t ∷ []) b
AreExchanges-more {form} number a m b [] t same exchange = (b, subst (λ (s : SeatState). ExchangeLeadsTo form number s t b) same exchange, refl)
AreExchanges-more {form} number a m b (u ∷ exchanges) t (n, first, rest) exchange = (n, first, AreExchanges-more number n m b exchanges t rest exchange)

-- the lists grow by the exchanges' own
pub moves_follow : (form : ReplyForm) (number : ℕ) (a b : SeatState) (exchanges : List Exchange) → AreExchanges form number a exchanges b
    → Follows number a.seat (moves_of exchanges) b.seat
moves_follow form number a b [] same = ap (λ at_seat. at_seat.seat) same
moves_follow form number a b (t ∷ exchanges) (m, exchange, rest) =
    Follows-append number a.seat m.seat b.seat t.moves (moves_of exchanges) exchange.seat (moves_follow form number m b exchanges rest)

pub orders_grow : (form : ReplyForm) (number : ℕ) (a b : SeatState) (exchanges : List Exchange) → AreExchanges form number a exchanges b
    → b.asked ≡ a.asked ++ orders_of exchanges
orders_grow form number a b [] same = ap (λ at_seat. at_seat.asked) same ∙ sym (append-nil a.asked)
orders_grow form number a b (t ∷ exchanges) (m, exchange, rest) =
    orders_grow form number m b exchanges rest
    ∙ ap (λ (xs : List OrderValue). xs ++ orders_of exchanges) exchange.orders
    ∙ append_assoc a.asked t.orders (orders_of exchanges)
