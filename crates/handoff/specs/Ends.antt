-- What the ends of a queue show.
use Rattle.std.specs.Prelude.{◌≡◌, ◌+◌, ◌-◌, ◌++◌, ◌∷◌, ℕ, Bool, true, false, List, [], Option, Some, None, Result, Ok, Err, MatchBool, MatchResult, ⊤}
use Rattle.std.specs.declared.alloc.AllocError.{AllocError}
use Rattle.crossbeam_channel.specs.declared.flavors.array.Key.{Key}
use Rattle.atomic_table.specs.Seated.{TableId}
use Rattle.atomic_table.specs.declared.badge.Badge.{Badge}
use Rattle.handoff.specs.Queue.{Held, QueueRule, nothing_kept}
use Rattle.handoff.specs.declared.putting.NotPut.{NotPut}
use Rattle.handoff.specs.declared.queue.Message.{Message}
use Rattle.handoff.specs.declared.queue.KeeperView.{KeeperView}
use Rattle.handoff.specs.declared.queue.EndView.{EndView}

-- which queue, of all that there are
abbrev pub QueueId : Type 0 → Type 0
QueueId I = TableId × Badge (Key (Message I))

-- the end that keeps a queue
pub record KeeperValue (I : Type 0) : Type 0 where
  pub queue : QueueId I
  pub view : KeeperView I
  pub opens : Bool  -- whether further ends may go out at which items are taken

-- an end at which items are put
pub record PutterValue (I : Type 0) : Type 0 where
  pub queue : QueueId I
  pub items : List I  -- that were put here, in order
  pub tries : ℕ  -- how often an item was tried to be put here

-- an end at which items are taken
pub record TakerValue (I : Type 0) : Type 0 where
  pub queue : QueueId I
  pub taken : List I  -- in order
  pub over : Bool  -- it asked for another one, and none came
  pub closed : Bool  -- the queue was closed for this end

-- how often the queue was closed for an end
abbrev pub times : Bool → ℕ
times true = 1
times false = 0

-- an end is sent out, unused, and counted; or memory is refused, and nothing changes
abbrev pub SendsOut : {E K : Type 0} → E → (K → K) → Result E AllocError → K → K → Type 0
SendsOut unused counted result before after = MatchResult result (λ end. (end ≡ unused) × (after ≡ counted before)) (λ refused. after ≡ before)

module _ {I : Type 0} where
  -- one more end is out
  abbrev pub putter_out : KeeperValue I → KeeperValue I
  putter_out a = record a { view = record a.view { putting = a.view.putting + 1 } }

  abbrev pub taker_out : KeeperValue I → KeeperValue I
  taker_out a = record a { view = record a.view { taking = a.view.taking + 1 } }

  -- one is back
  abbrev pub putter_back : KeeperValue I → PutterValue I → KeeperValue I
  putter_back a putter = record a { view = record a.view { putting = a.view.putting - 1; put = a.view.put ++ putter.items } }

  abbrev pub taker_back : KeeperValue I → TakerValue I → KeeperValue I
  taker_back a taker = record a {
    view = record a.view {
      taking = a.view.taking - 1;
      taken = a.view.taken ++ taker.taken;
      ended = a.view.ended + times taker.closed;
    };
  }

  -- an item was put by the end that keeps the queue, or a closing
  abbrev pub with_put : KeeperValue I → I → KeeperValue I
  with_put a item = record a { view = record a.view { put = a.view.put ++ item ∷ [] } }

  abbrev pub closed_once_more : KeeperValue I → KeeperValue I
  closed_once_more a = record a { view = record a.view { closings = a.view.closings + 1 } }

  -- ends at which nothing was put, tried to be put, or taken yet
  abbrev pub unused_putter : QueueId I → PutterValue I
  unused_putter queue = record { queue = queue; items = []; tries = 0 }

  abbrev pub unused_taker : QueueId I → TakerValue I
  unused_taker queue = record { queue = queue; taken = []; over = false; closed = false }

  -- an end that has tried once more to put an item, which is put or isn't
  abbrev pub with_item : PutterValue I → I → PutterValue I
  with_item putter item = record putter { items = putter.items ++ item ∷ []; tries = putter.tries + 1 }

  abbrev pub once_tried : PutterValue I → PutterValue I
  once_tried putter = record putter { tries = putter.tries + 1 }

  abbrev pub after_try : {E : Type 0} → PutterValue I → I → Result (Unit {0}) E → PutterValue I
  after_try putter item (Ok u) = with_item putter item
  after_try putter item (Err fault) = once_tried putter

  -- what an end knows, by what it does
  abbrev pub keeper_of : EndView I → KeeperView I
  keeper_of (EndView.Keeping k) = k
  keeper_of side = nothing_kept

  abbrev pub items_of : EndView I → List I
  items_of (EndView.Putting items tries) = items
  items_of (EndView.Taking items ended) = items
  items_of side = []

  abbrev pub tries_of : EndView I → ℕ
  tries_of (EndView.Putting items tries) = tries
  tries_of side = 0

  abbrev pub IsKeeperSide : EndView I → Type 0
  IsKeeperSide side = side ≡ EndView.Keeping (keeper_of side)

  abbrev pub IsPuttingSide : EndView I → Type 0
  IsPuttingSide side = side ≡ EndView.Putting (items_of side) (tries_of side)

  abbrev pub IsTakingSide : Bool → EndView I → Type 0
  IsTakingSide closed side = side ≡ EndView.Taking (items_of side) (times closed)

module _ {I : Type 0} (rule : QueueRule I) where
  -- why an item isn't put by a try: a queue with this much room was full at one moment since this try began; of a queue from which none is taken any
  -- more nothing is said
  abbrev pub IsTurnedAway : ℕ → PutterValue I → NotPut → Type 0
  IsTurnedAway room end NotPut.Full = Held rule room (EndView.Putting end.items (end.tries + 1))
  IsTurnedAway room end NotPut.NoTaker = ⊤

  -- an open end takes an item; or it takes none: the queue is closed for it, or else was empty at one moment
  abbrev pub TakesNext : TakerValue I → Option I → TakerValue I → Type 0
  TakesNext before (Some item) after = (before.closed ≡ false) × (after ≡ record before { taken = before.taken ++ item ∷ []; over = false })
  TakesNext before None after = (after ≡ record before { over = true; closed = after.closed })
      × MatchBool after.closed ⊤ ((before.closed ≡ false) × Held rule 0 (EndView.Taking before.taken 0))
