-- The queue: what waits there, and what its ends know.
use Rattle.std.specs.Prelude.{◌≡◌, ◌≤◌, ◌<◌, ◌+◌, ◌-◌, ◌++◌, ◌∷◌, ℕ, List, [], IsPermutation, length, ⊤}
use mathlib.Core.Option.{some}
use lib.ListN.{get_elem?}
use Rattle.crossbeam_channel.specs.Fifo.{Forks, Held as Moment, Pops, Pushes}
use Rattle.handoff.specs.declared.queue.Message.{Message}
use Rattle.handoff.specs.declared.queue.KeeperView.{KeeperView}
use Rattle.handoff.specs.declared.queue.EndView.{EndView}

module _ {I : Type 0} where
  -- what is known of a new queue: no other end is out, and nothing was done
  abbrev pub nothing_kept : KeeperView I
  nothing_kept = record { put = []; taken = []; putting = 0; taking = 0; closings = 0; ended = 0 }

  abbrev pub new_queue : EndView I
  new_queue = EndView.Keeping nothing_kept

  -- an end at which nothing was put, and one at which nothing was taken
  abbrev pub new_putter : EndView I
  new_putter = EndView.Putting [] 0

  abbrev pub new_taker : EndView I
  new_taker = EndView.Taking [] 0

  -- an end that has tried once more to put an item
  abbrev pub tried : EndView I → EndView I
  tried (EndView.Putting items tries) = EndView.Putting items (tries + 1)
  tried side = side

  -- one more end is out, at which items are put, or taken
  abbrev pub with_putter_out : EndView I → EndView I
  with_putter_out (EndView.Keeping k) = EndView.Keeping (record k { putting = k.putting + 1 })
  with_putter_out side = side

  abbrev pub with_taker_out : EndView I → EndView I
  with_taker_out (EndView.Keeping k) = EndView.Keeping (record k { taking = k.taking + 1 })
  with_taker_out side = side

  -- one is back, with what was put or taken there
  abbrev pub with_back : EndView I → EndView I → EndView I
  with_back (EndView.Keeping k) (EndView.Putting items tries) = EndView.Keeping (record k { putting = k.putting - 1; put = k.put ++ items })
  with_back (EndView.Keeping k) (EndView.Taking items ended) =
      EndView.Keeping (record k { taking = k.taking - 1; taken = k.taken ++ items; ended = k.ended + ended })
  with_back side other = side

  -- what an end does with one message: it is put, or taken
  abbrev pub IsOneMore : EndView I → Message I → EndView I → Type 0
  IsOneMore (EndView.Keeping k) (Message.Item item) after = after ≡ EndView.Keeping (record k { put = k.put ++ item ∷ [] })
  IsOneMore (EndView.Keeping k) Message.Closing after = after ≡ EndView.Keeping (record k { closings = k.closings + 1 })
  IsOneMore (EndView.Putting items tries) (Message.Item item) after = after ≡ EndView.Putting (items ++ item ∷ []) tries
  IsOneMore (EndView.Taking items ended) (Message.Item item) after = after ≡ EndView.Taking (items ++ item ∷ []) ended
  IsOneMore (EndView.Taking items ended) Message.Closing after = after ≡ EndView.Taking items (ended + 1)
  IsOneMore side message after = ⊥

  -- the items that an end knows to be put, and to be taken
  abbrev pub put_at : EndView I → List I
  put_at (EndView.Keeping k) = k.put
  put_at (EndView.Putting items tries) = items
  put_at side = []

  abbrev pub taken_at : EndView I → List I
  taken_at (EndView.Keeping k) = k.taken
  taken_at (EndView.Taking items ended) = items
  taken_at side = []

  -- whether an end keeps the queue, puts items, or takes them: 1 or 0
  abbrev pub keeps : EndView I → ℕ
  keeps (EndView.Keeping k) = 1
  keeps side = 0

  abbrev pub puts_there : EndView I → ℕ
  puts_there (EndView.Putting items tries) = 1
  puts_there side = 0

  abbrev pub takes_there : EndView I → ℕ
  takes_there (EndView.Taking items ended) = 1
  takes_there side = 0

  -- how many ends an end knows to be out, at which items are put, or taken; and how many closings it knows to be put, or taken
  abbrev pub putting_at : EndView I → ℕ
  putting_at (EndView.Keeping k) = k.putting
  putting_at side = 0

  abbrev pub taking_at : EndView I → ℕ
  taking_at (EndView.Keeping k) = k.taking
  taking_at side = 0

  abbrev pub closings_at : EndView I → ℕ
  closings_at (EndView.Keeping k) = k.closings
  closings_at side = 0

  abbrev pub ended_at : EndView I → ℕ
  ended_at (EndView.Keeping k) = k.ended
  ended_at (EndView.Taking items ended) = ended
  ended_at side = 0

  -- the items of all ends, end after end
  abbrev pub items_by : (EndView I → List I) → List (EndView I) → List I
  items_by part [] = []
  items_by part (side ∷ rest) = part side ++ items_by part rest

  abbrev pub total : (EndView I → ℕ) → List (EndView I) → ℕ
  total part [] = 0
  total part (side ∷ rest) = part side + total part rest

  -- the items that wait, and how many closings
  abbrev pub waiting_in : List (Message I) → List I
  waiting_in [] = []
  waiting_in (Message.Item item ∷ rest) = item ∷ waiting_in rest
  waiting_in (Message.Closing ∷ rest) = waiting_in rest

  abbrev pub closings_in : List (Message I) → ℕ
  closings_in [] = 0
  closings_in (Message.Item item ∷ rest) = closings_in rest
  closings_in (Message.Closing ∷ rest) = 1 + closings_in rest

  -- no item waits behind a closing
  abbrev pub AreClosedLast : List (Message I) → Type 0
  AreClosedLast [] = ⊤
  AreClosedLast (Message.Item item ∷ rest) = AreClosedLast rest
  AreClosedLast (Message.Closing ∷ rest) = waiting_in rest ≡ []

  -- each item that was put at some end was taken once at some end, or waits; and no other was taken, or waits
  abbrev pub AreTakenOnce : List (Message I) → List (EndView I) → Type 0
  AreTakenOnce messages views = IsPermutation (items_by put_at views) (items_by taken_at views ++ waiting_in messages)

-- what a queue with this much room holds, oldest first, and what its ends know: each item is taken once. One end keeps the queue, and counts those
-- that are out. Once it has closed the queue, nothing is put any more; and once a closing was taken, no item waits
pub record IsQueue {I : Type 0} (room : ℕ) (messages : List (Message I)) (views : List (EndView I)) : Type 0 where
  pub few : length messages ≤ room
  pub once : AreTakenOnce messages views
  pub last : AreClosedLast messages
  pub keeper : total keeps views ≡ 1
  pub putting_are : total putting_at views ≡ total puts_there views
  pub taking_are : total taking_at views ≡ total takes_there views
  pub closings_are : total closings_at views ≡ total ended_at views + closings_in messages
  pub none_putting : 0 < total closings_at views → total putting_at views ≡ 0
  pub none_waits : 0 < total ended_at views → waiting_in messages ≡ []

-- whatever the ends of a queue did: each item that was put was taken once, or waits
abbrev pub EachIsTakenOnce : Type 0 → Type 0
EachIsTakenOnce I = (room : ℕ) (messages : List (Message I)) (views : List (EndView I)) → IsQueue room messages views → AreTakenOnce messages views

-- once all ends are back, and the queue was closed for one at which items were taken, what was taken is what was put, each item once
abbrev pub AllWereTaken : {I : Type 0} → KeeperView I → Type 0
AllWereTaken k = k.putting ≡ 0 → k.taking ≡ 0 → 0 < k.ended → IsPermutation k.put k.taken

-- so it is by what the end that keeps the queue knows; of other ends nothing is said
abbrev pub KnowsAllTaken : {I : Type 0} → EndView I → Type 0
KnowsAllTaken (EndView.Keeping k) = AllWereTaken k
KnowsAllTaken side = ⊤

-- a rule of what a queue holds, oldest first, and of what each of its ends knows
abbrev pub QueueRule : Type 0 → Type 1
QueueRule I = List (Message I) → List (EndView I) → Type 0

module _ {I : Type 0} (rule : QueueRule I) where
  -- an end that puts an item where fewer wait than there is room for keeps the rule, and so does one that tries to. Each of these steps changes what
  -- this end knows: so no steps of its own lead from a moment at which there was room to one at which there is none and it knows the same
  pub record IsKeptByPutting (room : ℕ) : Type 0 where
    pub puts : (pass : ℕ) (items : List I) (tries : ℕ) (item : I)
        → Pushes rule room pass (EndView.Putting items tries) (Message.Item item) (IsOneMore (EndView.Putting items tries) (Message.Item item))
    pub tries : (pass : ℕ) (items : List I) (tries : ℕ)
        → Forks rule pass (EndView.Putting items tries) (tried (EndView.Putting items tries)) EndView.Rests

  -- an end that takes what comes first keeps it
  abbrev pub IsKeptByTaking : Type 0
  IsKeptByTaking = (pass : ℕ) (items : List I) (ended : ℕ) → Pops rule pass (EndView.Taking items ended) (IsOneMore (EndView.Taking items ended))

-- a rule of what a channel holds and of what its ends know holds of these messages and of what some ends know, one of which knows this
abbrev pub IsHeldBeside : {A V : Type 0} → (List A → List V → Type 0) → V → List A → Type 0
IsHeldBeside {A} {V} rule side messages = (views : List V) × (pass : ℕ) × rule messages views × (get_elem? views pass ≡ some side)

-- at one moment a channel held so many, and one of its ends knew this: the rule held then
abbrev pub Held : {A V : Type 0} → (List A → List V → Type 0) → ℕ → V → Type 0
Held rule count side = Moment count (IsHeldBeside rule side)
