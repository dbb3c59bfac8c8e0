-- What a server did, from what it was started with to what is left.
use Rattle.std.specs.Prelude.{◌≡◌, ◌≤◌, ℕ, List, All, length}
use mathlib.Core.Option.{some}
use lib.ListN.{get_elem?}
use Rattle.atomic_table.specs.Seated.{TableId}
use Rattle.shelves.specs.Pinned.{PinnedIsLeftAlone}
use Rattle.shelves.specs.SeatHistory.{Grows}
use Rattle.shelves.specs.ShelfLoads.{ShelfLoaderValue, shelf_loader}
use Rattle.shelves.specs.ShelfSeats.{NoticeValue, ShelfSeatValue, shelf_seats}
use Rattle.shelves.specs.Words.{LoaderWords, SeatWords}
use Rattle.shelf_steps.specs.EventHistory.{known_in_full}
use Rattle.shelf_steps.specs.Events.{known_of}
use Rattle.shelf_steps.specs.Laws.{Shelved}
use Rattle.shelf_steps.specs.Rule.{KeepsRule}
use Rattle.client_queue.specs.Dealing.{IsExhausted, SourceWords}
use Rattle.feed_loads.specs.Carrying.{AreLoaded, load_input_of, loads_value}
use Rattle.feed_loads.specs.Words.{FeedWords, LoadWords}
use Rattle.workers.specs.Ordering.{AreAllTaken, route_to}
use Rattle.workers.specs.Sessions.{AreServedSince, worker_starts, work_of}
use Rattle.workers.specs.Words.{SessionWords}
use Rattle.workers.specs.declared.outcome.ServingOutcome.{ServingOutcome}
use Rattle.workers.specs.declared.running.WorkersFault.{WorkersFault}

-- what a server is started with
pub record ServerInput (K T S L F : Type 0) : Type 0 where
  pub clients : K
  pub shelves : T
  pub seats : List S
  pub loader : L
  pub feeds : F

abbrev pub server_input_of : {K T S L F : Type 0} → K → T → List S → L → F → ServerInput K T S L F
server_input_of clients shelves seats loader feeds = record { clients = clients; shelves = shelves; seats = seats; loader = loader; feeds = feeds }

-- 1 to 16 seats, and the loader's, may be used at these shelves
pub record SeatsAreReady {K T S L N F : Type 0} (seats : SeatWords T S N) (loader : LoaderWords T L) (input : ServerInput K T S L F) : Type 0 where
  pub fit : All (seats.fits input.shelves) input.seats
  pub loader_fits : loader.fits input.shelves input.loader
  pub some : 1 ≤ length input.seats
  pub few : length input.seats ≤ 16

-- the shelves are those of this name, and 1 to 16 seats and the loader's are theirs
pub record SeatsAreReadyAt {K F : Type 0} (name : TableId) (input : ServerInput K TableId ShelfSeatValue ShelfLoaderValue F) : Type 0 where
  pub named : input.shelves ≡ name
  pub ready : SeatsAreReady shelf_seats shelf_loader input

module _ {C R W K T S L N F D : Type 0} where
  -- no further client comes, and what held of their source holds still; and the workers' seats and the loader's may still be used at the shelves
  pub record IsLeft (seats : SeatWords T S N) (loader : LoaderWords T L) (source : SourceWords K C) (input : ServerInput K T S L F)
      (left : ServingOutcome R W K S L N D) : Type 0 where
    pub clients : IsExhausted source input.clients left.clients
    pub fit : All (seats.fits input.shelves) left.seats.items
    pub loader_fits : loader.fits input.shelves left.loader

  -- each client who came meanwhile was dealt to exactly one worker and had one session at its seat; what these sessions ordered went by the loader's queue,
  -- under the names of these feeds
  abbrev pub AllServed : SessionWords C R W T S N → SourceWords K C → FeedWords F D → ServerInput K T S L F → ServingOutcome R W K S L N D → Type 0
  AllServed words source feeds input left = AreServedSince words (source.came input.clients) (source.came left.clients)
      (worker_starts input.seats (route_to (feeds.named input.feeds) left.loader_orders.queue)) (work_of left.served left.seats.items left.worker_orders)

-- what this worker's seat knows of its shelves and what the loader's seat knows are beginnings of one history, at each moment between two steps at
-- which both are at one table as they are here
abbrev pub KnowOneHistory : ShelfLoaderValue → ShelfSeatValue → Type 0
KnowOneHistory loader seat =
    (table : Shelved) (i j : ℕ) (r : KeepsRule table) → get_elem? table.views i ≡ some seat.view → get_elem? table.views j ≡ some loader.view
    → Grows (known_of seat.view) (known_in_full r.history) × Grows (known_of loader.view) (known_in_full r.history)

-- while a seat of these shelves shows that it holds a version, that version is left alone, in any table that keeps the rule. This binds every body:
-- whatever workers and the loader do, a table of shelves changes by steps of its seats alone, and each step keeps the rule; so the law is about
-- whatever a run of these shelves can come to, and nothing frees what it leaves alone
abbrev pub PinnedAreLeftAloneAt : TableId → Type 0
PinnedAreLeftAloneAt shelves = (seat : ShelfSeatValue) → seat.table ≡ shelves → PinnedIsLeftAlone seat

-- as `IsLeft`, at shelves without a lock; and the histories by which the sessions' profiles are exact, and that of what the loader published, are
-- beginnings of one
abbrev pub IsLeftAt : {C R W K F D : Type 0} → SourceWords K C → ServerInput K TableId ShelfSeatValue ShelfLoaderValue F
    → ServingOutcome R W K ShelfSeatValue ShelfLoaderValue NoticeValue D → Type 0
IsLeftAt source input left = IsLeft shelf_seats shelf_loader source input left × All (KnowOneHistory left.loader) left.seats.items

-- a fault, which says nothing of sessions: not all threads were started, and the clients' source is as it was; or workers or the loader were lost, and
-- no further client comes
abbrev pub IsUnserved : {C K : Type 0} → SourceWords K C → K → WorkersFault K → Type 0
IsUnserved source before (WorkersFault.NotStarted clients) = clients ≡ before
IsUnserved source before (WorkersFault.Lost clients) = IsExhausted source before clients

-- the loader took exactly the orders that the sessions put, each once, and carried out each in turn
pub record AllLoaded {R W K T S L N F D : Type 0} (words : LoadWords F D T L N) (input : ServerInput K T S L F) (left : ServingOutcome R W K S L N D)
    : Type 0 where
  pub taken : AreAllTaken left.worker_orders left.loader_orders
  pub loaded : AreLoaded (load_input_of words input.feeds left.loader_orders.queue) input.loader (loads_value left.loader_orders left.used) left.loader

-- a whole run of a server, at any shelves: what is left, all who came were served, and all that they ordered was loaded
pub record IsServerRun {C R W K T S L N F D : Type 0} (words : SessionWords C R W T S N) (source : SourceWords K C) (loads : LoadWords F D T L N)
    (input : ServerInput K T S L F) (ran : ServingOutcome R W K S L N D) : Type 0 where
  pub left : IsLeft words.seats loads.outcomes.loader source input ran
  pub served : AllServed words source loads.feeds input ran
  pub loaded : AllLoaded loads input ran

-- a whole run of a server at shelves without a lock
pub record IsServerRunAt {C R W K F D : Type 0} (words : SessionWords C R W TableId ShelfSeatValue NoticeValue) (source : SourceWords K C)
    (loads : LoadWords F D TableId ShelfLoaderValue NoticeValue) (input : ServerInput K TableId ShelfSeatValue ShelfLoaderValue F)
    (ran : ServingOutcome R W K ShelfSeatValue ShelfLoaderValue NoticeValue D) : Type 0 where
  pub left : IsLeftAt source input ran
  pub served : AllServed words source loads.feeds input ran
  pub loaded : AllLoaded loads input ran
