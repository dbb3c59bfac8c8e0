-- What happened so far: one list of events with their replies, the state that it leads to, and the image of each version.
use Rattle.std.specs.Prelude.{◌≡◌, ◌≢◌, ℕ, zero, suc, ◌+◌, ◌<◌, ◌==◌, cond, List, [], ◌∷◌, ◌++◌, length, slice_get, slice_index, Option, Some, None}
use Rattle.std.specs.Arc.{arc_value}
use mathlib.Core.List.{IsPrefix}
use Rattle.image_layout.specs.Image.{ImageValue}
use Rattle.version_core.specs.declared.event.Event.{Event}
use Rattle.version_core.specs.declared.event.Reply.{Reply}
use Rattle.version_core.specs.declared.state.Shelf.{Shelf}
use Rattle.version_core.specs.State.{State, start, newest}
use Rattle.version_core.specs.Shown.{shelf_word}
use Rattle.version_core.specs.Steps.{Step}
use Rattle.version_core.specs.Runs.{Run}
use Rattle.version_core.specs.Actors.{actor, NoneOf}
use Rattle.shelf_steps.specs.declared.edition.Edition.{Edition}
use Rattle.shelf_steps.specs.declared.views.KnownHistory.{KnownHistory}

-- a state, the events with their replies that led to it, and the image of each version
pub record EventHistory : Type 0 where
  pub state : State
  pub events : List Event
  pub replies : List Reply
  pub images : List ImageValue

-- the event is of no worker, or of one of the sixteen
abbrev pub IsOfSixteen : Event → Type 0
IsOfSixteen (Event.Look w) = w < 16
IsOfSixteen (Event.Take w) = w < 16
IsOfSixteen (Event.Drop w) = w < 16
IsOfSixteen (Event.Ask w) = w < 16
IsOfSixteen (Event.Join w v) = w < 16
IsOfSixteen _ = Unit {0}

-- so is each of these events
abbrev pub AreOfSixteen : List Event → Type 0
AreOfSixteen [] = Unit {0}
AreOfSixteen (e ∷ es) = IsOfSixteen e × AreOfSixteen es

-- the events, of sixteen workers and the loader, lead from the start to the state, with the replies. Edition numbers are indices in the
-- list of images
pub record LeadsToItsState (c : EventHistory) : Type 0 where
  pub run : Run start c.events c.replies c.state
  pub workers : AreOfSixteen c.events
  pub as_many : length c.images ≡ newest c.state
  pub numbered : (i edition : ℕ) → slice_get c.state.editions i ≡ Some edition → edition ≡ i

-- the history with one more event
abbrev pub extended : EventHistory → Event → Reply → State → List ImageValue → EventHistory
extended c e r t images = record { state = t; events = c.events ++ e ∷ []; replies = c.replies ++ r ∷ []; images = images }

-- the history d is the history c and this event with its reply, which is a step from the state of c to that of d. Images are only added
pub record IsLonger (c : EventHistory) (e : Event) (r : Reply) (d : EventHistory) : Type 0 where
  pub is_step : Step c.state e r d.state
  pub events : d.events ≡ c.events ++ e ∷ []
  pub replies : d.replies ≡ c.replies ++ r ∷ []
  pub images : IsPrefix c.images d.images

-- all of the history, in the form in which a seat knows it
abbrev pub known_in_full : EventHistory → KnownHistory
known_in_full c = record { events = c.events; replies = c.replies; images = c.images }

-- what is known, as a history that leads to the state
abbrev pub leading_to : State → KnownHistory → EventHistory
leading_to s k = record { state = s; events = k.events; replies = k.replies; images = k.images }

-- what is known is a beginning of the history, after which there is no event of this actor
pub record IsKnownBeginning (k : KnownHistory) (a : Option ℕ) (c : EventHistory) : Type 0 where
  pub events : (rest : List Event) × (k.events ++ rest ≡ c.events) × NoneOf a rest
  pub replies : IsPrefix k.replies c.replies
  pub images : IsPrefix k.images c.images

-- how many notices went out
abbrev pub note_of : Event → ℕ
note_of Event.Note = 1
note_of _ = 0

abbrev pub notes_in : List Event → ℕ
notes_in [] = 0
notes_in (e ∷ es) = note_of e + notes_in es

-- the versions of the notices that the worker took in, from the first to the last
abbrev pub join_of : ℕ → Event → List ℕ
join_of w (Event.Join u v) = cond (u == w) (v ∷ []) []
join_of w _ = []

abbrev pub joined_by : ℕ → List Event → List ℕ
joined_by w [] = []
joined_by w (e ∷ es) = join_of w e ++ joined_by w es

-- the worker has done nothing, and taken in no notice
abbrev pub HasDoneNothing : ℕ → List Event → Type 0
HasDoneNothing w events = NoneOf (Some w) events × (joined_by w events ≡ [])

-- from what was known before to what is known after: the event with this reply is the last that happened, and no event of its actor lies between
pub record Happened (before : KnownHistory) (e : Event) (r : Reply) (after : KnownHistory) : Type 0 where
  pub state : State
  pub goes : LeadsToItsState (leading_to state after)
  pub events : (rest : List Event) × (after.events ≡ (before.events ++ rest) ++ e ∷ []) × NoneOf (actor e) rest
  pub replies : (rest : List Reply) × (after.replies ≡ (before.replies ++ rest) ++ r ∷ [])
  pub images : IsPrefix before.images after.images

-- no collection of the shelf is answered with Freed
abbrev pub NeverFreed : ℕ → List Event → List Reply → Type 0
NeverFreed k (Event.Collect j ∷ es) (Reply.Freed ∷ rs) = (j ≢ k) × NeverFreed k es rs
NeverFreed k (e ∷ es) (r ∷ rs) = NeverFreed k es rs
NeverFreed k _ _ = Unit {0}

-- no event after what is known has freed the shelf
pub record NeverFreedSince (k : ℕ) (known : KnownHistory) (c : EventHistory) : Type 0 where
  pub events : List Event
  pub replies : List Reply
  pub first : List Reply
  pub since : known.events ++ events ≡ c.events
  pub answered : first ++ replies ≡ c.replies
  pub as_many : length replies ≡ length events
  pub never : NeverFreed k events replies

-- the word that this event, the last that is known, found on the shelf k: the events before it lead to a state in which the shelf and its count make
-- this word
pub record FoundAt (known : KnownHistory) (e : Event) (k word : ℕ) : Type 0 where
  pub before : EventHistory
  pub goes : LeadsToItsState before
  pub events : known.events ≡ before.events ++ e ∷ []
  pub shelf : Shelf
  pub stands : slice_get before.state.shelves k ≡ Some shelf
  pub is : word ≡ shelf_word shelf (slice_index before.state.counts k)

-- the image of a version. Versions count from 1
abbrev pub image_of : List ImageValue → ℕ → Option ImageValue
image_of images zero = None
image_of images (suc n) = slice_get images n

-- the edition is the version with its image
abbrev pub IsEdition : List ImageValue → ℕ → Option Edition → Type 0
IsEdition images v edition = (e : Edition) × (edition ≡ Some e) × (e.version ≡ v) × (image_of images v ≡ Some (arc_value e.image))
