-- Each step keeps the rule, and makes the one history longer by its own event.
use Rattle.image_layout.specs.Image.{ImageValue}
use Rattle.std.specs.Prelude.{◌≡◌, ℕ, ◌+◌, ◌-◌, ◌*◌, ◌/◌, ◌%◌, ◌<◌, ◌==◌, cond, List, [], ◌∷◌, ◌++◌, Option, length}
use Rattle.std.specs.Prelude.{slice_index, slice_set}
use mathlib.Core.Option.{some, none}
use lib.ListN.{get_elem?}
use prog.Atomic.{either}
use Rattle.atomic_table.specs.Table.{Act, step, stepped, Valid, carried_after, opening}
use Rattle.version_core.specs.declared.event.Event.{Event}
use Rattle.version_core.specs.declared.event.Reply.{Reply}
use Rattle.version_core.specs.declared.state.Worker.{Worker}
use Rattle.version_core.specs.State.{start}
use Rattle.shelf_steps.specs.declared.edition.Edition.{Edition}
use Rattle.shelf_steps.specs.declared.views.WorkerView.{WorkerView}
use Rattle.shelf_steps.specs.declared.views.LoaderView.{LoaderView}
use Rattle.shelf_steps.specs.declared.views.View.{View}
use Rattle.shelf_steps.specs.EventHistory.{IsLonger, known_in_full}
use Rattle.shelf_steps.specs.Rule.{KeepsRule, first_words, first_loader_view, FirstSlots}
use Rattle.shelf_steps.specs.Plays.{SeatAndSlots, is_open, newest_of, Looks, Takes, Leaves, GivesBack, Opens, Publishes, Closes, Collects}
use Rattle.shelf_steps.specs.Plays.{Gathers, PutsBack, MayOpenOn, MayPublish, MayCloseShelf, MayCollect, MayGather, MayPutBack}
use Rattle.shelf_steps.specs.Plays.{closing_word, newcomer, one_more, open_word}
use Rattle.shelf_steps.specs.Slots.{slot_at}
use Rattle.shelf_steps.specs.Laws.{Shelved}
use Rattle.shelf_steps.specs.Events.{known_of}

-- the numbers that a word of 64 bits can have
abbrev pub word_values : ℕ
word_values = 18446744073709551616

-- a word after so much was added to it; `word_values - 1` more is one less
abbrev pub added : ℕ → ℕ → ℕ
added more n = (n + more) % word_values

-- a step on a word: what it becomes of what was found, and the event that it is, with its reply
pub record WordChange : Type 0 where
  pub word : ℕ
  pub becomes : ℕ → ℕ
  pub event : Event
  pub reply : ℕ → Reply

abbrev pub word_change : ℕ → (ℕ → ℕ) → Event → (ℕ → Reply) → WordChange
word_change word becomes event reply = record { word = word; becomes = becomes; event = event; reply = reply }

-- A seat's step on a word. `slots` is the number of slots of the table, id the seat, me its view and the slots that are out with it. Whatever the table is
-- at that moment, if the rule holds of it, then the seat can have a new view and move slots such that the rule holds of the table after the step, with the
-- history before and this event; the seat then knows all of that history; and `tells` holds of the number that was found and of the seat after the step.
-- Except for the history, this is what the kit requires of each operation on a word (`Allows`)
abbrev pub Adds : ℕ → ℕ → SeatAndSlots → WordChange → (ℕ → SeatAndSlots → Type 0) → Type 0
Adds slots id me change tells =
    (table : Shelved) (r : KeepsRule table) → length table.homes ≡ slots → get_elem? table.views id ≡ some me.0
    → slice_index table.words change.word < word_values
    → (w : View) × (a : Act (Option Edition)) × Valid table.homes me.1 a
    × (after : KeepsRule (stepped table change.word (change.becomes (slice_index table.words change.word)) id me.1 w a))
    × IsLonger r.history change.event (change.reply (slice_index table.words change.word)) after.history × (known_of w ≡ known_in_full after.history)
    × tells (slice_index table.words change.word) (w, carried_after me.1 a)

-- the slots that are out with a seat
abbrev pub Carried : Type 0
Carried = List (ℕ × Option Edition)

-- an idle worker looks at the first word
abbrev pub LooksAdd : Type 0
LooksAdd = (slots id : ℕ) (v : WorkerView) (c : Carried) → v.now ≡ Worker.Idle
    → Adds slots id (View.Working v, c) (word_change 0 (λ n. n) (Event.Look v.number) (λ n. Reply.Looked (n / 8) (n % 8)))
    (Looks (View.Working v, c))

-- a worker that has looked adds one to its shelf's word: it holds the version if the word says so, else it is late
abbrev pub TakesAdd : Type 0
TakesAdd = (slots id k version : ℕ) (v : WorkerView) (c : Carried) → v.now ≡ Worker.Looked version k
    → Adds slots id (View.Working v, c) (word_change (k + 1) (added 1) (Event.Take v.number)
    (λ n. cond (is_open n version) (Reply.Holds version) Reply.Late)) (Takes (View.Working v, c))

-- a late worker subtracts one from its shelf's word
abbrev pub LeavesAdd : Type 0
LeavesAdd = (slots id k : ℕ) (v : WorkerView) (c : Carried) → v.now ≡ Worker.Late k
    → Adds slots id (View.Working v, c) (word_change (k + 1) (added (word_values - 1))
    (Event.Drop v.number) (λ _. Reply.Dropped)) (λ _. Leaves (View.Working v, c))

-- so does a worker that holds the shelf, whose slot is out with it, with the edition in the slot
abbrev pub GivingsAdd : Type 0
GivingsAdd = (slots id k version : ℕ) (v : WorkerView) → slots ≡ 128 → v.now ≡ Worker.Holding k version
    → Adds slots id (View.Working v, (slot_at k v.number, v.edition) ∷ []) (word_change (k + 1)
    (added (word_values - 1)) (Event.Drop v.number) (λ _. Reply.Dropped))
    (λ _. GivesBack (View.Working v, (slot_at k v.number, v.edition) ∷ []))

-- the loader opens a free shelf by adding to its word, makes the version current by a store, and closes an older version's shelf by adding to its
-- word
abbrev pub OpensAdd : Type 0
OpensAdd = (slots id k version : ℕ) (l : LoaderView) (c : Carried) → slots ≡ 128 → k < 8
    → MayOpenOn k version (View.Loading l) c
    → Adds slots id (View.Loading l, c) (word_change (k + 1) (added (open_word version))
    (Event.Open (newest_of l)) (λ _. Reply.Opened version k))
    (Opens (step slots (k + 1) (open_word version) 0 none) (View.Loading l, c))

abbrev pub PublishesAdd : Type 0
PublishesAdd = (slots id k version : ℕ) (l : LoaderView) (c : Carried) → k < 8
    → MayPublish version k (View.Loading l)
    → Adds slots id (View.Loading l, c) (word_change 0 (λ _. 8 * version + k) Event.Publish (λ _. Reply.Published version))
    (λ _. Publishes (step slots 0 (8 * version + k) 0 none) (View.Loading l, c) (8 * version + k))

abbrev pub ClosesAdd : Type 0
ClosesAdd = (slots id k : ℕ) (l : LoaderView) (c : Carried) → k < 8 → MayCloseShelf k (View.Loading l)
    → Adds slots id (View.Loading l, c) (word_change (k + 1) (added 256) (Event.Close k)
    (λ _. Reply.Closing)) (Closes (step slots (k + 1) 256 0 none) (View.Loading l, c))

-- a compare-exchange frees a closing shelf if its count is 0, and otherwise finds the count
abbrev pub CollectsAdd : Type 0
CollectsAdd = (slots id k version : ℕ) (l : LoaderView) (c : Carried) → slots ≡ 128 → k < 8
    → MayCollect k version (View.Loading l) c
    → Adds slots id (View.Loading l, c) (word_change (k + 1) (λ n. either (n == closing_word version) 0 n) (Event.Collect k)
    (λ n. cond (n == closing_word version) Reply.Freed (Reply.Busy (n % 256))))
    (Collects (step slots (k + 1) (closing_word version) 0 none) (View.Loading l, c))

-- the slots of a free shelf are moved by compare-exchanges that fail
abbrev pub GatheringsAdd : Type 0
GatheringsAdd = (slots id k : ℕ) (l : LoaderView) (c : Carried) → slots ≡ 128 → k < 8
    → MayGather k (View.Loading l) c
    → Adds slots id (View.Loading l, c) (word_change (k + 1) (λ n. either (n == 512) 0 n) (Event.Collect k) (λ _. Reply.NotNow))
    (Gathers (step slots (k + 1) 512 0 none) (View.Loading l, c))

abbrev pub PuttingsAdd : Type 0
PuttingsAdd = (slots id k : ℕ) (l : LoaderView) (c : Carried) → slots ≡ 128 → k < 8
    → MayPutBack k (View.Loading l) c
    → Adds slots id (View.Loading l, c) (word_change (k + 1) (λ n. either (n == 512) 0 n) (Event.Collect k) (λ _. Reply.NotNow))
    (PutsBack (step slots (k + 1) 512 0 none) (View.Loading l, c))

-- at the start the rule holds, and nothing has happened
abbrev pub StartIsRuled : Type 0
StartIsRuled = (image : ImageValue) (items : List (Option Edition)) → FirstSlots image 128 items
    → (r : KeepsRule (opening first_words items (View.Loading (first_loader_view image))))
    × (r.history ≡ record { state = start; events = []; replies = []; images = image ∷ [] })

-- the table once a worker's seat was split from the loader's
abbrev pub handing : Shelved → ℕ → LoaderView → Shelved
handing table id l = record table { views = slice_set table.views id (View.Loading (one_more l)) ++ View.Working (newcomer l.handed) ∷ [] }

-- handing out a seat adds nothing to the history
abbrev pub HandingsAddNothing : Type 0
HandingsAddNothing = (table : Shelved) (id : ℕ) (l : LoaderView) (r : KeepsRule table)
    → get_elem? table.views id ≡ some (View.Loading l) → l.handed < 16
    → (after : KeepsRule (handing table id l)) × (after.history ≡ r.history)
