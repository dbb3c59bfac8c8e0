-- Where the workers of a server work, and what they return.
use Rattle.std.specs.Prelude.{◌≡◌, ◌++◌, ◌∷◌, ℕ, List, [], All, length, true}
use Rattle.client_queue.specs.Ends.{DealerValue, nothing_put, with_taker_back}
use Rattle.handoff.specs.Ends.{QueueId, TakerValue}
use Rattle.load_orders.specs.Asking.{OrderRoute}
use Rattle.load_orders.specs.Keeping.{OrderKeeperValue, OrderQueueId, with_orders}
use Rattle.feed_loads.specs.Words.{FeedWords}
use Rattle.session.specs.declared.reply_form.ReplyForm.{ReplyForm}
use Rattle.workers.specs.Ordering.{put_by, route_to}
use Rattle.workers.specs.Sessions.{HaveAllServed, IsShare, ShareValue, WorkValue, WorkerStart, worker_start}
use Rattle.workers.specs.Words.{SessionWords}

-- where all workers of a server work: at these shelves, with replies in this form, for the clients of this queue, and with orders of these feeds by
-- this queue
pub record PlaceValue (T C N F : Type 0) : Type 0 where
  pub shelves : T
  pub form : ReplyForm
  pub clients : QueueId C
  pub feeds : F
  pub orders : OrderQueueId N

abbrev pub place_of : {T C N F : Type 0} → T → ReplyForm → QueueId C → F → OrderQueueId N → PlaceValue T C N F
place_of shelves form clients feeds orders = record { shelves = shelves; form = form; clients = clients; feeds = feeds; orders = orders }

-- one worker's post: its seat at that place
pub record PostValue (T S C N F : Type 0) : Type 0 where
  pub place : PlaceValue T C N F
  pub seat : S

abbrev pub post_of : {T S C N F : Type 0} → PlaceValue T C N F → S → PostValue T S C N F
post_of place seat = record { place = place; seat = seat }

-- the way of all orders that are asked for at this place
abbrev pub route_at : {T C N F D : Type 0} → FeedWords F D → PlaceValue T C N F → OrderRoute N
route_at feeds place = route_to (feeds.named place.feeds) place.orders

-- what a worker returns: its end of the queue of clients, from which it took clients until none came, its seat, which still fits the shelves, and
-- the sessions of the clients that it took there
pub record IsWorked {C R W T S N F D : Type 0} (words : SessionWords C R W T S N) (feeds : FeedWords F D) (post : PostValue T S C N F)
    (taker : TakerValue C) (share : ShareValue R W S N) : Type 0 where
  pub queue : taker.queue ≡ post.place.clients
  pub over : taker.over ≡ true
  pub fits : words.seats.fits post.place.shelves share.seat
  pub served : IsShare words (worker_start post.seat (route_at feeds post.place)) taker.taken share

-- the ends that keep both queues
pub record QueuesValue (C N : Type 0) : Type 0 where
  pub clients : DealerValue C
  pub orders : OrderKeeperValue N

abbrev pub queues_of : {C N : Type 0} → DealerValue C → OrderKeeperValue N → QueuesValue C N
queues_of clients orders = record { clients = clients; orders = orders }

-- a worker is joined for whom the queue of clients was closed: its ends of both queues are back, and what it returns is added to the work
pub record IsJoined {C R W T S N F D : Type 0} (words : SessionWords C R W T S N) (feeds : FeedWords F D) (post : PostValue T S C N F)
    (a b : QueuesValue C N × WorkValue R W S N) : Type 0 where
  pub taker : TakerValue C
  pub share : ShareValue R W S N
  pub worked : IsWorked words feeds post taker share
  pub closed : taker.closed ≡ true
  pub clients_are : b.0.clients ≡ with_taker_back a.0.clients taker
  pub orders_are : b.0.orders ≡ with_orders a.0.orders share.orders.end.items
  pub sessions_are : b.1.sessions ≡ a.1.sessions ++ share.sessions
  pub seats_are : b.1.seats ≡ a.1.seats ++ share.seat ∷ []
  pub asked_are : b.1.orders ≡ a.1.orders ++ share.orders ∷ []

-- these clients were put in their queue, which was closed for so many takers, and so many of these came back because it was
pub record AreBack {C : Type 0} (clients : List C) (takers back : ℕ) (a b : DealerValue C) : Type 0 where
  pub queue : b.queue ≡ a.queue
  pub sent : b.view.sent ≡ clients
  pub closings : b.view.closings ≡ takers
  pub out : b.view.out ≡ a.view.out
  pub ended : b.view.ended ≡ back

-- nothing was put in either queue, and the queue of orders is open; ends of both may be out
pub record AreUnused {C N : Type 0} (queues : QueuesValue C N) : Type 0 where
  pub none_put : queues.clients.view ≡ record nothing_put { out = queues.clients.view.out }
  pub none_asked : queues.orders.put ≡ []
  pub unclosed : queues.orders.closings ≡ 0

-- posts at shelves: where the worker of each begins, and for how many takers the queue of clients is closed
pub record Posts (T S N : Type 0) : Type 0 where
  pub shelves : T
  pub starts : List (WorkerStart S N)
  pub takers : ℕ

abbrev pub posts_of : {T S N : Type 0} → T → List (WorkerStart S N) → ℕ → Posts T S N
posts_of shelves starts takers = record { shelves = shelves; starts = starts; takers = takers }

-- the clients who came so far, and both queues
pub record ServingState (C N : Type 0) : Type 0 where
  pub came : List C
  pub queues : QueuesValue C N

abbrev pub serving_state_of : {C N : Type 0} → List C → QueuesValue C N → ServingState C N
serving_state_of came queues = record { came = came; queues = queues }

-- all clients by whom the list of those who came grew were put in their queue, which was closed for so many takers; workers at these posts took some
-- of them and served them, and their ends of both queues are back
pub record HaveServed {C R W T S N : Type 0} (words : SessionWords C R W T S N) (posts : Posts T S N) (a b : ServingState C N) (work : WorkValue R W S N)
    : Type 0 where
  pub clients : List C
  pub came : b.came ≡ a.came ++ clients
  pub dealt : AreBack clients posts.takers (length posts.starts) a.queues.clients b.queues.clients
  pub served : HaveAllServed words b.queues.clients.view.taken posts.starts work
  pub fit : All (words.seats.fits posts.shelves) work.seats
  pub orders_are : b.queues.orders ≡ record a.queues.orders { put = put_by work.orders }
