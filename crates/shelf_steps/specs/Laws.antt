-- What the rule says of words, views and slots, part by part.
use Rattle.std.specs.Prelude.{◌≡◌, ◌≢◌, ℕ, ◌+◌, ◌*◌, ◌<◌, ◌≤◌, true, List, Option, Some, None, length, count_by, slice_get, slice_index}
use mathlib.Core.Option.{some, none}
use lib.ListN.{get_elem?}
use Rattle.atomic_table.specs.Table.{State as Table}
use Rattle.version_core.specs.declared.state.Shelf.{Shelf}
use Rattle.version_core.specs.declared.state.Worker.{Worker}
use Rattle.version_core.specs.State.{State}
use Rattle.version_core.specs.Invariants.{KeepsInvariants, version_on, is_at}
use Rattle.shelf_steps.specs.declared.edition.Edition.{Edition}
use Rattle.shelf_steps.specs.declared.views.WorkerView.{WorkerView}
use Rattle.shelf_steps.specs.declared.views.LoaderView.{LoaderView}
use Rattle.shelf_steps.specs.declared.views.View.{View}
use Rattle.shelf_steps.specs.EventHistory.{EventHistory, LeadsToItsState, IsKnownBeginning, IsEdition, NeverFreedSince, notes_in, joined_by}
use Rattle.version_core.specs.Shown.{WordsShow, WorkerShows, LoaderShows, shelf_word}
use Rattle.shelf_steps.specs.Plays.{closing_word}
use Rattle.shelf_steps.specs.Slots.{IsSpare, slot_at}
use Rattle.shelf_steps.specs.Rule.{KeepsRule, notices_of}

abbrev pub Shelved : Type 0
Shelved = Table (Option Edition) View

-- seat 0 is the loader's, with this view
abbrev pub IsLoader : Shelved → LoaderView → Type 0
IsLoader table l = get_elem? table.views 0 ≡ some (View.Loading l)

-- there is one loader's seat, and no other
abbrev pub OneSeatLoads : Type 0
OneSeatLoads =
    (table : Shelved) → KeepsRule table
    → ((l : LoaderView) × IsLoader table l) × ((i : ℕ) (l : LoaderView) → get_elem? table.views i ≡ some (View.Loading l) → i ≡ 0)

-- the first word, and the state and version of each shelf word, are those of the loader's view, in which the current shelf is open with the current version
abbrev pub WordsAreTheLoaders : Type 0
WordsAreTheLoaders =
    (table : Shelved) (l : LoaderView) → KeepsRule table → IsLoader table l
    → (slice_index table.words 0 ≡ 8 * l.current + l.current_shelf)
    × (slice_get l.shelves l.current_shelf ≡ Some (Shelf.Open l.current))
    × ((k : ℕ) (x : Shelf) → slice_get l.shelves k ≡ Some x → (count : ℕ) × (count ≤ 16) × (slice_index table.words (k + 1) ≡ shelf_word x count))

-- there is a list of what the sixteen workers are doing: what each seat says of its worker stands there, a worker with no seat yet is idle, and the
-- count in each shelf's word is the number of workers that are late at the shelf or hold it
abbrev pub WordsCountWorkers : Type 0
WordsCountWorkers =
    (table : Shelved) (l : LoaderView) → KeepsRule table → IsLoader table l
    → (workers : List Worker) × (length workers ≡ 16)
    × ((i : ℕ) (v : WorkerView) → get_elem? table.views i ≡ some (View.Working v) → slice_get workers v.number ≡ Some v.now)
    × ((w : ℕ) → w < l.handed → (i : ℕ) × (v : WorkerView) × (get_elem? table.views i ≡ some (View.Working v)) × (v.number ≡ w))
    × ((w : ℕ) → l.handed ≤ w → w < 16 → slice_get workers w ≡ Some Worker.Idle)
    × ((k : ℕ) (x : Shelf) → slice_get l.shelves k ≡ Some x → slice_index table.words (k + 1) ≡ shelf_word x (count_by (is_at k) workers))

-- no two seats have the same worker's number, and each number is below sixteen
abbrev pub NumbersDiffer : Type 0
NumbersDiffer =
    (table : Shelved) (i j : ℕ) (v w : WorkerView) → KeepsRule table → get_elem? table.views i ≡ some (View.Working v)
    → get_elem? table.views j ≡ some (View.Working w)
    → (v.number < 16) × (v.number ≡ w.number → i ≡ j)

-- if a worker holds a version, its shelf is open or closing with that version, and the worker has its edition, with the image that the loader's list
-- has for it
abbrev pub HeldHaveEditions : Type 0
HeldHaveEditions =
    (table : Shelved) (l : LoaderView) (i k v : ℕ) (w : WorkerView) → KeepsRule table → IsLoader table l
    → get_elem? table.views i ≡ some (View.Working w) → w.now ≡ Worker.Holding k v
    → (version_on l.shelves k ≡ Some v) × IsEdition l.known.images v w.edition

-- if a slot of an open or closing shelf isn't at home, its own worker holds the shelf
abbrev pub SlotsOutAreHeld : Type 0
SlotsOutAreHeld =
    (table : Shelved) (l : LoaderView) (k w v : ℕ) → KeepsRule table → IsLoader table l → version_on l.shelves k ≡ Some v
    → w < 16 → get_elem? table.homes (slot_at k w) ≡ some none
    → (i : ℕ) × (u : WorkerView) × (get_elem? table.views i ≡ some (View.Working u)) × (u.number ≡ w) × (u.now ≡ Worker.Holding k v)

-- a slot of an open or closing shelf that is at home has the edition of the shelf's version
abbrev pub SlotsAtHomeAreFilled : Type 0
SlotsAtHomeAreFilled =
    (table : Shelved) (l : LoaderView) (k w v : ℕ) (x : Option Edition) → KeepsRule table → IsLoader table l
    → version_on l.shelves k ≡ Some v → w < 16 → get_elem? table.homes (slot_at k w) ≡ some (some x)
    → IsEdition l.known.images v x

-- the slot of a worker that holds a version is out: it isn't at home, where a step could take it, and the loader has no slot of that shelf in its
-- hand
abbrev pub HoldersSlotsAreOut : Type 0
HoldersSlotsAreOut =
    (table : Shelved) (l : LoaderView) (i k v : ℕ) (w : WorkerView) → KeepsRule table → IsLoader table l
    → get_elem? table.views i ≡ some (View.Working w) → w.now ≡ Worker.Holding k v
    → (get_elem? table.homes (slot_at k w.number) ≡ some none) × (l.hand ≢ Some k)

-- the slots of a free shelf are the loader's: out with it, or at home and empty
abbrev pub FreeSlotsAreTheLoaders : Type 0
FreeSlotsAreTheLoaders =
    (table : Shelved) (l : LoaderView) (k w : ℕ) → KeepsRule table → IsLoader table l
    → slice_get l.shelves k ≡ Some Shelf.Free → w < 16 → IsSpare l.hand k (get_elem? table.homes (slot_at k w))

-- the word of a shelf that a worker holds isn't one at which a collection frees the shelf
abbrev pub HeldShelvesAreInUse : Type 0
HeldShelvesAreInUse =
    (table : Shelved) (l : LoaderView) (i k v version : ℕ) (w : WorkerView) → KeepsRule table → IsLoader table l
    → get_elem? table.views i ≡ some (View.Working w) → w.now ≡ Worker.Holding k v
    → slice_index table.words (k + 1) ≢ closing_word version

-- no event after those that the worker's seat knows has freed the shelf that it holds
abbrev pub HeldShelvesStay : Type 0
HeldShelvesStay =
    (table : Shelved) (i k v : ℕ) (w : WorkerView) (r : KeepsRule table)
    → get_elem? table.views i ≡ some (View.Working w) → w.now ≡ Worker.Holding k v
    → NeverFreedSince k w.known r.history

-- the versions that a worker has seen and last looked at are at most the current one, and the one last looked at is below it if the take of that came
-- late; a worker that has looked at the version that is still current has its shelf
abbrev pub LooksAreSo : Type 0
LooksAreSo =
    (table : Shelved) (l : LoaderView) (i : ℕ) (w : WorkerView) → KeepsRule table → IsLoader table l → get_elem? table.views i ≡ some (View.Working w)
    → (w.seen ≤ l.current) × (w.last ≤ l.current) × (w.passed ≡ true → w.last < l.current)
    × ((v k : ℕ) → w.now ≡ Worker.Looked v k → (v ≤ l.current) × (v ≡ l.current → k ≡ l.current_shelf))

-- a notice is of the current version or an older one
abbrev pub NoticesAreNoNewer : Type 0
NoticesAreNoNewer = (table : Shelved) (l : LoaderView) (i v : ℕ) → KeepsRule table → IsLoader table l → get_elem? table.views i ≡ some (View.Noting v)
    → v ≤ l.current

-- the words, and what each seat knows, show the state: editions are indices in the loader's list of images, and a worker
-- with no seat yet is idle and has seen nothing
pub record TableShows (table : Shelved) (l : LoaderView) (s : State) : Type 0 where
  pub words : WordsShow table.words s
  pub loader : LoaderShows l.current l.current_shelf l.shelves (length l.known.images) s
  pub numbered : (i edition : ℕ) → slice_get s.editions i ≡ Some edition → edition ≡ i
  pub workers : (i : ℕ) (v : WorkerView) → get_elem? table.views i ≡ some (View.Working v) → WorkerShows v.number v.now v.seen s
  pub notices : notices_of table.views ≡ s.notices
  pub unseated : (w : ℕ) → l.handed ≤ w → w < 16 → (slice_get s.workers w ≡ Some Worker.Idle) × (slice_index s.seen w ≡ 0)

-- there is one history of events, of which each seat knows a beginning, after which there is no step of its own on a word. It leads to the state that
-- words and seats show. The loader's view has the number of notices that went out in it, and each worker's view lists exactly those that the worker
-- took in
abbrev pub OneHistory : Type 0
OneHistory =
    (table : Shelved) → KeepsRule table
    → (c : EventHistory) × LeadsToItsState c
    × ((i : ℕ) (v : WorkerView) → get_elem? table.views i ≡ some (View.Working v) → IsKnownBeginning v.known (Some v.number) c
    × (v.joined ≡ joined_by v.number c.events))
    × ((l : LoaderView) → IsLoader table l → IsKnownBeginning l.known None c × (l.known.images ≡ c.images) × TableShows table l c.state
    × (l.notes ≡ notes_in c.events))

-- words and seats show exactly one state of which `KeepsInvariants` holds, and with it every law of the table of versions
abbrev pub OneStateIsShown : Type 0
OneStateIsShown =
    (table : Shelved) (l : LoaderView) → KeepsRule table → IsLoader table l
    → (s : State) × KeepsInvariants s × TableShows table l s × ((t : State) → KeepsInvariants t → TableShows table l t → t ≡ s)
