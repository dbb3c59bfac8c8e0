-- Each step is one event of the table of versions.
use Rattle.std.specs.Prelude.{◌≡◌, ℕ, ◌/◌, ◌%◌, ◌<◌, ◌⊎◌, max, [], ◌∷◌, ◌++◌, slice_set}
use mathlib.Core.Option.{some}
use lib.ListN.{get_elem?}
use Rattle.version_core.specs.declared.event.Event.{Event}
use Rattle.version_core.specs.declared.event.Reply.{Reply}
use Rattle.version_core.specs.State.{noted, joined}
use Rattle.shelf_steps.specs.declared.views.KnownHistory.{KnownHistory}
use Rattle.shelf_steps.specs.declared.views.WorkerView.{WorkerView}
use Rattle.shelf_steps.specs.declared.views.LoaderView.{LoaderView}
use Rattle.shelf_steps.specs.declared.views.View.{View}
use Rattle.shelf_steps.specs.EventHistory.{Happened, extended}
use Rattle.shelf_steps.specs.Rule.{KeepsRule}
use Rattle.shelf_steps.specs.Plays.{OfWorker, SeatAndSlots, Looks, Takes, Leaves, GivesBack, OpensOn, PublishesOn, ClosesOn, CollectsOn, GathersOn, PutsBackOn}
use Rattle.shelf_steps.specs.Plays.{ShowsLate, ShowsSettled, with_seen, with_note}
use Rattle.shelf_steps.specs.Laws.{Shelved, IsLoader}

-- what a seat knows of the past
abbrev pub known_of : View → KnownHistory
known_of (View.Loading l) = l.known
known_of (View.Working v) = v.known
known_of _ = record { events = []; replies = []; images = [] }

-- from the view u to the view u': the event with this reply is the last that is known, and no event of its actor lies between
abbrev pub IsEvent : View → Event → Reply → View → Type 0
IsEvent u e r u' = Happened (known_of u) e r (known_of u')

-- the same of an event of the worker whose seat it is
abbrev pub IsWorkers : (ℕ → Event) → Reply → View → View → Type 0
IsWorkers e r u u' = (w : ℕ) × OfWorker u (λ v. v.number ≡ w) × OfWorker u' (λ v. v.number ≡ w) × IsEvent u (e w) r u'

abbrev pub LooksAreEvents : Type 0
LooksAreEvents = (m m' : SeatAndSlots) (n : ℕ) → Looks m n m' → IsWorkers Event.Look (Reply.Looked (n / 8) (n % 8)) m.0 m'.0

abbrev pub TakesAreEvents : Type 0
TakesAreEvents = (m m' : SeatAndSlots) (n : ℕ) → Takes m n m'
    → ((version : ℕ) × IsWorkers Event.Take (Reply.Holds version) m.0 m'.0) ⊎ IsWorkers Event.Take Reply.Late m.0 m'.0

abbrev pub DropsAreEvents : Type 0
DropsAreEvents = (m m' : SeatAndSlots) → Leaves m m' ⊎ GivesBack m m' → IsWorkers Event.Drop Reply.Dropped m.0 m'.0

abbrev pub OpensAreEvents : Type 0
OpensAreEvents = (m m' : SeatAndSlots) (k : ℕ) → OpensOn k m m' → (edition version : ℕ) × IsEvent m.0 (Event.Open edition) (Reply.Opened version k) m'.0

abbrev pub PublishesAreEvents : Type 0
PublishesAreEvents = (m m' : SeatAndSlots) (version k : ℕ) → PublishesOn version k m m' → IsEvent m.0 Event.Publish (Reply.Published version) m'.0

abbrev pub ClosesAreEvents : Type 0
ClosesAreEvents = (m m' : SeatAndSlots) (k : ℕ) → ClosesOn k m m' → IsEvent m.0 (Event.Close k) Reply.Closing m'.0

abbrev pub CollectsAreEvents : Type 0
CollectsAreEvents =
    (m m' : SeatAndSlots) (k version n : ℕ) → CollectsOn k version n m m'
    → IsEvent m.0 (Event.Collect k) Reply.Freed m'.0 ⊎ IsEvent m.0 (Event.Collect k) (Reply.Busy (n % 256)) m'.0

-- the slots of a free shelf are moved by collections of it, which are answered with NotNow
abbrev pub SpareTriesAreEvents : Type 0
SpareTriesAreEvents = (m m' : SeatAndSlots) (k : ℕ) → GathersOn k m m' ⊎ PutsBackOn k m m' → IsEvent m.0 (Event.Collect k) Reply.NotNow m'.0

-- a look followed by a take that comes late: wherever the rule holds and the seat still has this view, the version that was looked at is no longer current
abbrev pub LateTakesTell : Type 0
LateTakesTell =
    (m m1 m2 : SeatAndSlots) (n word : ℕ) → Looks m n m1 → Takes m1 word m2 → ShowsLate (n % 8) m2.0
    → (table : Shelved) (l : LoaderView) (i : ℕ) → KeepsRule table → IsLoader table l → get_elem? table.views i ≡ some m2.0 → n / 8 < l.current

-- after such a take and the drop, the next look finds a greater version
abbrev pub LateTakesRise : Type 0
LateTakesRise =
    (m m1 m2 m3 m4 : SeatAndSlots) (n word n' : ℕ) → Looks m n m1 → Takes m1 word m2 → ShowsLate (n % 8) m2.0 → Leaves m2 m3 → Looks m3 n' m4 → n / 8 < n' / 8

-- the table once a notice was split from the loader's seat
abbrev pub noting : Shelved → ℕ → LoaderView → Shelved
noting table id l = record table { views = slice_set table.views id (View.Loading (with_note l)) ++ View.Noting l.current ∷ [] }

-- the table once a worker's seat has taken in a notice
abbrev pub joining : Shelved → ℕ → WorkerView → ℕ → ℕ → Shelved
joining table id v other n = record table { views = slice_set (slice_set table.views id (View.Working (with_seen v n))) other View.Spent }

-- a notice that goes out adds one event to the history, and nothing else
abbrev pub NotesAreEvents : Type 0
NotesAreEvents =
    (table : Shelved) (id : ℕ) (l : LoaderView) (r : KeepsRule table) → get_elem? table.views id ≡ some (View.Loading l)
    → (after : KeepsRule (noting table id l)) × (after.history ≡ extended r.history Event.Note (Reply.Noted l.current) (noted r.history.state) r.history.images)

-- so does a notice that is taken in
abbrev pub JoinsAreEvents : Type 0
JoinsAreEvents =
    (table : Shelved) (id other n : ℕ) (v : WorkerView) (r : KeepsRule table) → get_elem? table.views id ≡ some (View.Working v) → ShowsSettled (View.Working v)
    → get_elem? table.views other ≡ some (View.Noting n)
    → (after : KeepsRule (joining table id v other n))
    × ((index : ℕ) × (after.history ≡ extended r.history (Event.Join v.number n) (Reply.Joined (max v.seen n))
    (joined r.history.state v.number n index) r.history.images))
