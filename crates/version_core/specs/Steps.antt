-- What an event may do, by its reply. A reply that is not listed is never given, and NotNow changes nothing.
-- s is the state before, t the state after; w a worker, k a shelf, v a version, e an edition, r a reply.
use Rattle.std.specs.Prelude.{◌≡◌, ◌≢◌, ℕ, ◌+◌, ◌<◌, max, Some, ◌⊎◌, slice_get, slice_index}
use Rattle.version_core.specs.declared.state.Shelf.{Shelf}
use Rattle.version_core.specs.declared.state.Worker.{Worker}
use Rattle.version_core.specs.declared.event.Event.{Event}
use Rattle.version_core.specs.declared.event.Reply.{Reply}
use Rattle.version_core.specs.State.{State, most_versions, newest, edition_of, looked, arrived, departed, opened, published, shelved, noted, joined}

-- the worker is idle
abbrev pub IsIdle : State → ℕ → Type 0
IsIdle s w = slice_get s.workers w ≡ Some Worker.Idle

-- the worker has looked, and saw this version on this shelf
abbrev pub HasLooked : State → ℕ → ℕ → ℕ → Type 0
HasLooked s w v k = slice_get s.workers w ≡ Some (Worker.Looked v k)

-- the worker holds the version on this shelf
abbrev pub Holds : State → ℕ → ℕ → ℕ → Type 0
Holds s w k v = slice_get s.workers w ≡ Some (Worker.Holding k v)

-- the worker is late at the shelf or holds it
abbrev pub StaysAt : State → ℕ → ℕ → Type 0
StaysAt s w k = (slice_get s.workers w ≡ Some (Worker.Late k)) ⊎ ((v : ℕ) × Holds s w k v)

-- no version stands on the shelf
abbrev pub IsFree : State → ℕ → Type 0
IsFree s k = slice_get s.shelves k ≡ Some Shelf.Free

-- the shelf is open with this version
abbrev pub IsOpen : State → ℕ → ℕ → Type 0
IsOpen s k v = slice_get s.shelves k ≡ Some (Shelf.Open v)

-- the shelf is closing, and still has this version
abbrev pub IsClosing : State → ℕ → ℕ → Type 0
IsClosing s k v = slice_get s.shelves k ≡ Some (Shelf.Closing v)

-- the shelf is open with this version, which is above the current one: versions are published in order, so it is still to come
abbrev pub IsUnpublished : State → ℕ → ℕ → Type 0
IsUnpublished s k v = IsOpen s k v × (s.current < v)

-- open, not current, not unpublished
abbrev pub IsOutdated : State → ℕ → ℕ → Type 0
IsOutdated s k v = IsOpen s k v × (v ≢ s.current) × (¬ (IsUnpublished s k v))

-- no version is open and unpublished, and there is a number left
abbrev pub MayOpen : State → Type 0
MayOpen s = ((k v : ℕ) → ¬ (IsUnpublished s k v)) × (newest s < most_versions)

-- an idle worker gets the current version and its shelf, and has then looked; for any other worker, NotNow
abbrev pub LookStep : State → ℕ → Reply → State → Type 0
LookStep s w (Reply.Looked v k) t = IsIdle s w × (v ≡ s.current) × (k ≡ s.current_shelf) × (t ≡ looked s w)
LookStep s w Reply.NotNow t = (¬ (IsIdle s w)) × (t ≡ s)
LookStep s w _ t = ⊥

-- a worker that has looked holds the version if the shelf that it saw is still open with it; otherwise it is late. For any other worker, NotNow
abbrev pub TakeStep : State → ℕ → Reply → State → Type 0
TakeStep s w (Reply.Holds v) t = (k : ℕ) × HasLooked s w v k × IsOpen s k v × (t ≡ arrived s w k (Worker.Holding k v))
TakeStep s w Reply.Late t = (v k : ℕ) × HasLooked s w v k × (¬ (IsOpen s k v)) × (t ≡ arrived s w k (Worker.Late k))
TakeStep s w Reply.NotNow t = ((v k : ℕ) → ¬ (HasLooked s w v k)) × (t ≡ s)
TakeStep s w _ t = ⊥

-- a worker that is late at a shelf or holds it is idle and no longer counted there; for any other worker, NotNow
abbrev pub DropStep : State → ℕ → Reply → State → Type 0
DropStep s w Reply.Dropped t = (k : ℕ) × StaysAt s w k × (t ≡ departed s w k)
DropStep s w Reply.NotNow t = ((k : ℕ) → ¬ (StaysAt s w k)) × (t ≡ s)
DropStep s w _ t = ⊥

-- any free shelf may be opened with the next version; its count, of workers still late there, stays. If no shelf is free, the reply has the counts;
-- if no version may be opened, NotNow
abbrev pub OpenStep : State → ℕ → Reply → State → Type 0
OpenStep s e (Reply.Opened v k) t = MayOpen s × IsFree s k × (v ≡ newest s + 1) × (t ≡ opened s k e)
OpenStep s e (Reply.NoRoom counts) t = MayOpen s × ((k : ℕ) → ¬ (IsFree s k)) × (counts ≡ s.counts) × (t ≡ s)
OpenStep s e Reply.NotNow t = (¬ (MayOpen s)) × (t ≡ s)
OpenStep s e _ t = ⊥

-- the version that is open and unpublished becomes the current one; if there is none, NotNow
abbrev pub PublishStep : State → Reply → State → Type 0
PublishStep s (Reply.Published v) t = (k : ℕ) × IsUnpublished s k v × (t ≡ published s k v)
PublishStep s Reply.NotNow t = ((k v : ℕ) → ¬ (IsUnpublished s k v)) × (t ≡ s)
PublishStep s _ t = ⊥

-- an open shelf whose version is outdated is closing, and its count stays; for any other shelf, NotNow
abbrev pub CloseStep : State → ℕ → Reply → State → Type 0
CloseStep s k Reply.Closing t = (v : ℕ) × IsOutdated s k v × (t ≡ shelved s k (Shelf.Closing v))
CloseStep s k Reply.NotNow t = ((v : ℕ) → ¬ (IsOutdated s k v)) × (t ≡ s)
CloseStep s k _ t = ⊥

-- a closing shelf is freed if its count is 0; otherwise the reply has the count, and nothing changes. For any other shelf, NotNow
abbrev pub CollectStep : State → ℕ → Reply → State → Type 0
CollectStep s k Reply.Freed t = (v : ℕ) × IsClosing s k v × (slice_index s.counts k ≡ 0) × (t ≡ shelved s k Shelf.Free)
CollectStep s k (Reply.Busy count) t = (v : ℕ) × IsClosing s k v × (slice_index s.counts k ≡ count) × (0 < count) × (t ≡ s)
CollectStep s k Reply.NotNow t = ((v : ℕ) → ¬ (IsClosing s k v)) × (t ≡ s)
CollectStep s k _ t = ⊥

-- a worker that holds a version gets that version and its edition, and nothing changes; for any other worker, NotNow
abbrev pub AskStep : State → ℕ → Reply → State → Type 0
AskStep s w (Reply.From v e) t = (k : ℕ) × Holds s w k v × (edition_of s.editions v ≡ Some e) × (t ≡ s)
AskStep s w Reply.NotNow t = ((k v : ℕ) → ¬ (Holds s w k v)) × (t ≡ s)
AskStep s w _ t = ⊥

-- a notice of the current version may go out at any time
abbrev pub NoteStep : State → Reply → State → Type 0
NoteStep s (Reply.Noted v) t = (v ≡ s.current) × (t ≡ noted s)
NoteStep s _ t = ⊥

-- the worker is idle or holds a version
abbrev pub IsSettled : State → ℕ → Type 0
IsSettled s w = IsIdle s w ⊎ ((k v : ℕ) × Holds s w k v)

-- a notice of the version is out
abbrev pub IsNoted : State → ℕ → Type 0
IsNoted s v = (index : ℕ) × (slice_get s.notices index ≡ Some v)

-- the worker is settled, and a notice of the version is out
abbrev pub MayJoin : State → ℕ → ℕ → Type 0
MayJoin s w v = IsSettled s w × IsNoted s v

-- a settled worker takes in a notice of the version, and gets the greatest version that it has seen; if it isn't settled, or no such notice is
-- out, NotNow
abbrev pub JoinStep : State → ℕ → ℕ → Reply → State → Type 0
JoinStep s w v (Reply.Joined seen) t =
    IsSettled s w × (seen ≡ max (slice_index s.seen w) v) × ((index : ℕ) × (slice_get s.notices index ≡ Some v) × (t ≡ joined s w v index))
JoinStep s w v Reply.NotNow t = (¬ (MayJoin s w v)) × (t ≡ s)
JoinStep s w v _ t = ⊥

-- from s, the event may be answered with this reply and lead to t
abbrev pub Step : State → Event → Reply → State → Type 0
Step s (Event.Look w) r t = LookStep s w r t
Step s (Event.Take w) r t = TakeStep s w r t
Step s (Event.Drop w) r t = DropStep s w r t
Step s (Event.Open e) r t = OpenStep s e r t
Step s Event.Publish r t = PublishStep s r t
Step s (Event.Close k) r t = CloseStep s k r t
Step s (Event.Collect k) r t = CollectStep s k r t
Step s (Event.Ask w) r t = AskStep s w r t
Step s Event.Note r t = NoteStep s r t
Step s (Event.Join w v) r t = JoinStep s w v r t

-- the event takes memory: a version is about to be opened, or a notice to go out
abbrev pub Grows : State → Event → Type 0
Grows s (Event.Open e) = MayOpen s × ((k : ℕ) × IsFree s k)
Grows s Event.Note = Unit {0}
Grows s _ = ⊥

-- an opening takes the least free shelf
abbrev pub OpensLeast : State → Event → Reply → Type 0
OpensLeast s (Event.Open e) (Reply.Opened v k) = (j : ℕ) → j < k → ¬ (IsFree s j)
OpensLeast s _ _ = Unit {0}
