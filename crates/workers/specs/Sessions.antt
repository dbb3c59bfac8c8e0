-- What clients' sessions do.
use Rattle.std.specs.Prelude.{◌≡◌, ◌++◌, ◌∷◌, true, Some, None, List, [], All, Result, Ok, Err, IsPermutation, MatchOption, flat_map, map}
use Rattle.shelves.specs.Seats.{SeatValue}
use Rattle.handoff.specs.Ends.{QueueId, TakerValue}
use Rattle.lines.specs.Streams.{inner_of}
use Rattle.load_orders.specs.Asking.{OrderRoute, WorkerOrdersValue}
use Rattle.orders.specs.Ordering.{OrderValue}
use Rattle.shelf_steps.specs.declared.views.KnownHistory.{KnownHistory}
use Rattle.session.specs.Learning.{ExchangesAreFromPublished, Learns, SeatAnswersFromPublished}
use Rattle.session.specs.declared.fault.Ended.{Ended}
use Rattle.session.specs.declared.fault.SessionFault.{SessionFault}
use Rattle.session.specs.Sessions.{LastRelease, Serves, serve_words, state_of}
use Rattle.session.specs.Exchanges.{seat_state}
use Rattle.workers.specs.Ends.{Session, end_of}
use Rattle.workers.specs.Ordering.{IsAskedBy}
use Rattle.workers.specs.Words.{SessionWords}
use Rattle.workers.specs.declared.clients.ConnFault.{ConnFault}
use Rattle.workers.specs.declared.served.SessionEnd.{SessionEnd}
use Rattle.session.specs.Streams.{AreNew}
use Rattle.session.specs.declared.session_server.Streams.{Streams}

-- a seat, and the orders that were asked for at it
pub record WorkerState (S : Type 0) : Type 0 where
  pub seat : S
  pub asked : List OrderValue

abbrev pub worker_state : {S : Type 0} → S → List OrderValue → WorkerState S
worker_state seat asked = record { seat = seat; asked = asked }

-- where a worker begins: at this seat, with orders that go this way
pub record WorkerStart (S N : Type 0) : Type 0 where
  pub seat : S
  pub route : OrderRoute N

abbrev pub worker_start : {S N : Type 0} → S → OrderRoute N → WorkerStart S N
worker_start seat route = record { seat = seat; route = route }

-- a worker at each of these seats, with orders that all go the same way
abbrev pub worker_starts : {S N : Type 0} → List S → OrderRoute N → List (WorkerStart S N)
worker_starts seats route = map (λ seat. worker_start seat route) seats

-- what a worker returns: its clients' sessions, its seat, and its orders
pub record ShareValue (R W S N : Type 0) : Type 0 where
  pub sessions : List (Session R W S)
  pub seat : S
  pub orders : WorkerOrdersValue N

abbrev pub share_of : {R W S N : Type 0} → List (Session R W S) → S → WorkerOrdersValue N → ShareValue R W S N
share_of sessions seat orders = record { sessions = sessions; seat = seat; orders = orders }

-- what all workers return: the sessions, worker after worker; and each one's seat and orders
pub record WorkValue (R W S N : Type 0) : Type 0 where
  pub sessions : List (Session R W S)
  pub seats : List S
  pub orders : List (WorkerOrdersValue N)

abbrev pub work_of : {R W S N : Type 0} → List (Session R W S) → List S → List (WorkerOrdersValue N) → WorkValue R W S N
work_of sessions seats orders = record { sessions = sessions; seats = seats; orders = orders }

-- a client, and the session that it had
pub record ServedClient (C R W S : Type 0) : Type 0 where
  pub client : C
  pub session : Session R W S

abbrev pub served_client_of : {C R W S : Type 0} → C → Session R W S → ServedClient C R W S
served_client_of client session = record { client = client; session = session }

module _ {C R W T S N : Type 0} (words : SessionWords C R W T S N) where
  -- the client's own reader and writer were opened, and a session was served over them at this seat, which left them as they are now; then the seat gave
  -- back what it held
  pub record IsSession (client : C) (served_client : Streams R W S × SessionEnd) (a b : WorkerState S) : Type 0 where
    pub opened : R × W
    pub opens : words.clients.opens client (Ok opened)
    pub was : Streams R W S
    pub new : AreNew opened.0 opened.1 was
    pub result : Result Ended SessionFault
    pub last : SeatValue
    pub end_is : served_client.1 ≡ end_of result
    pub released : LastRelease (words.seats.number a.seat) last (words.seats.shown b.seat)
    pub serves : Serves (serve_words words.form words.reads words.writes) (words.seats.number a.seat) result
        (state_of words.seats.shown was.reader was.writer (seat_state (words.seats.shown a.seat) a.asked))
        (state_of words.seats.shown served_client.0.reader served_client.0.writer (seat_state last b.asked))

  -- the client couldn't be opened, and nothing was changed
  pub record IsUnopened (client : C) (end : SessionEnd) (a b : WorkerState S) : Type 0 where
    pub fault : ConnFault
    pub opens : words.clients.opens client (Err fault)
    pub end_is : end ≡ SessionEnd.Failed
    pub same : b ≡ a

  -- the client had such a session, or couldn't be opened
  abbrev pub IsServed : C → Session R W S → WorkerState S → WorkerState S → Type 0
  IsServed client session a b = MatchOption session.0 (IsUnopened client session.1 a b) (λ now. IsSession client (now, session.1) a b)

  -- as `IsServed`; and each profile in the session's exchanges, unless memory ran out or no version could be pinned, is answered exactly, over the
  -- accepted image that this history published as the version that the reply names
  abbrev pub IsExact : KnownHistory → ServedClient C R W S → WorkerState S → WorkerState S → Type 0
  IsExact history served_client a b = MatchOption served_client.session.0 (IsUnopened served_client.client served_client.session.1 a b)
      (λ now. (session : IsSession served_client.client (now, served_client.session.1) a b)
      × ExchangesAreFromPublished history words.form session.serves.exchanges)

  -- the clients are served at this seat one after the other, and each profile in their sessions is answered exactly, as the history has it that the
  -- seat knows in the end
  abbrev pub AreExact : List C → List (Session R W S) → WorkerState S → WorkerState S → Type 0
  AreExact [] [] a b = b ≡ a
  AreExact (client ∷ clients) (session ∷ sessions) a b =
      (m : WorkerState S) × IsExact (words.seats.known b.seat) (served_client_of client session) a m × AreExact clients sessions m b
  AreExact _ _ a b = ⊥

  -- the seat holds no version
  abbrev pub HoldsNothing : S → Type 0
  HoldsNothing seat = (words.seats.shown seat).held ≡ None

  -- a client is served at this seat, which learns meanwhile: each profile is answered over the image that the history published as its version, and
  -- the seat holds nothing then if it held nothing
  pub record IsServedAt (client : C) (session : Session R W S) (a b : WorkerState S) : Type 0 where
    pub served : IsServed client session a b
    pub number : words.seats.number b.seat ≡ words.seats.number a.seat
    pub learns : Learns (words.seats.known a.seat) (words.seats.shown a.seat) (words.seats.known b.seat) (words.seats.shown b.seat)
    pub profiles : SeatAnswersFromPublished (words.seats.known b.seat) (words.seats.shown a.seat) (words.seats.shown b.seat)
    pub idle : HoldsNothing a.seat → HoldsNothing b.seat

  -- the clients are served at this seat one after the other, each in one of these sessions
  abbrev pub AreServed : List C → List (Session R W S) → WorkerState S → WorkerState S → Type 0
  AreServed [] [] a b = b ≡ a
  AreServed (client ∷ clients) (session ∷ sessions) a b =
      (m : WorkerState S) × IsServedAt client session a m × AreServed clients sessions m b
  AreServed _ _ a b = ⊥

  -- after some sessions from this state on, the client was served, and its session ended so
  pub record IsServedLater (start : WorkerState S) (client : C) (now : Streams R W S) (end : SessionEnd) : Type 0 where
    pub clients : List C
    pub sessions : List (Session R W S)
    pub a : WorkerState S
    pub b : WorkerState S
    pub before : AreServed clients sessions start a
    pub session : IsServedAt client (Some now, end) a b

  -- each client's reader and writer may be closed as its session left them, whichever sessions came before it from this state on
  abbrev pub MayCloseFrom : WorkerState S → Type 0
  MayCloseFrom start = (client : C) (now : Streams R W S) (end : SessionEnd) → IsServedLater start client now end
      → words.clients.closes (inner_of now.reader) (inner_of now.writer) end

  -- a client's reader and writer may be closed after whatever sessions are served from the first on at one of these seats
  abbrev pub MayClose : List S → Type 0
  MayClose seats = All (λ seat. MayCloseFrom (worker_state seat [])) seats

  -- a worker may begin at this seat of these shelves
  pub record MayBegin (shelves : T) (seat : S) : Type 0 where
    pub fits : words.seats.fits shelves seat
    pub closes : MayCloseFrom (worker_state seat [])

  -- at these shelves a worker's end of the queue of clients, at which none was taken yet, and a seat, from which on clients may be closed; and no
  -- session was noted yet
  pub record IsReadyToServe (shelves : T) (taker : TakerValue C) (sessions : List (Session R W S)) (start : WorkerState S) : Type 0 where
    pub fits : words.seats.fits shelves start.seat
    pub none_taken : taker.taken ≡ []
    pub none_served : sessions ≡ []
    pub closes : MayCloseFrom start

  -- clients were taken from this queue until none came, and each that was taken was served at a seat of these shelves
  pub record HaveBeenServed (shelves : T) (queue : QueueId C) (share : TakerValue C × List (Session R W S)) (a b : WorkerState S) : Type 0 where
    pub fits : words.seats.fits shelves b.seat
    pub queue_is : share.0.queue ≡ queue
    pub over : share.0.over ≡ true
    pub served : AreServed share.0.taken share.1 a b
    pub exact : HoldsNothing a.seat → AreExact share.0.taken share.1 a b

  -- a worker's share: the sessions are those of these clients at its seat, and each profile in them is answered exactly, if the seat held nothing at
  -- first, as a new one. All that was ordered in them went this way, and did what its answer says
  pub record IsShare (start : WorkerStart S N) (clients : List C) (share : ShareValue R W S N) : Type 0 where
    pub served : AreServed clients share.sessions (worker_state start.seat []) (worker_state share.seat share.orders.asked)
    pub exact : HoldsNothing start.seat → AreExact clients share.sessions (worker_state start.seat []) (worker_state share.seat share.orders.asked)
    pub asked : IsAskedBy words.seats.version start.route share.orders

  -- each worker that began so got one hand of the clients, and this is its share
  abbrev pub AreShares : List (WorkerStart S N) → List (List C) → List (ShareValue R W S N) → Type 0
  AreShares [] [] [] = Unit {0}
  AreShares (start ∷ starts) (hand ∷ hands) (share ∷ shares) = IsShare start hand share × AreShares starts hands shares
  AreShares _ _ _ = ⊥

  -- the clients are dealt to the workers that began so, each to one and once; and what the workers return is each one's share, end to end: one session for
  -- each client
  pub record AreAllServed (clients : List C) (starts : List (WorkerStart S N)) (work : WorkValue R W S N) : Type 0 where
    pub hands : List (List C)
    pub dealt : IsPermutation clients (flat_map (λ hand. hand) hands)
    pub shares : List (ShareValue R W S N)
    pub each : AreShares starts hands shares
    pub sessions_are : work.sessions ≡ flat_map (λ share. share.sessions) shares
    pub seats_are : work.seats ≡ map (λ share. share.seat) shares
    pub orders_are : work.orders ≡ map (λ share. share.orders) shares

  -- whichever clients these are that were taken, in any order, each once: all of them are served
  abbrev pub HaveAllServed : List C → List (WorkerStart S N) → WorkValue R W S N → Type 0
  HaveAllServed taken starts work = (clients : List C) → IsPermutation clients taken → AreAllServed clients starts work

  -- all clients by whom the list of those who came grew are served
  pub record AreServedSince (before after : List C) (starts : List (WorkerStart S N)) (work : WorkValue R W S N) : Type 0 where
    pub clients : List C
    pub came : after ≡ before ++ clients
    pub all : AreAllServed clients starts work
