-- What each step tells the seat that makes it.
-- m and m' are what the seat has before the step and after it: its view, and the slots that are out with it. v is a worker's view, l the
-- loader's, u the view of either; c are the slots that are out, f has the content of each slot by its number; k is a shelf, n the word that
-- the step found. st is the operation on the table: its word, and the first number that it was given.
use Rattle.image_layout.specs.Image.{ImageValue}
use Rattle.std.specs.Prelude.{◌≡◌, ℕ, ◌+◌, ◌*◌, ◌/◌, ◌%◌, ◌<◌, ◌≤◌, ◌==◌, ◌&&◌, ◌⊎◌, max, Bool, true, false, List, [], ◌∷◌, ◌++◌, Option, Some, None, length}
use Rattle.std.specs.Prelude.{slice_get, slice_set}
use Rattle.std.specs.Arc.{arc_value}
use Rattle.atomic_table.specs.Table.{Me, Step}
use Rattle.atomic_table.specs.Seated.{TableId}
use Rattle.version_core.specs.State.{State, most_versions}
use Rattle.version_core.specs.Shown.{WorkerShows}
use Rattle.version_core.specs.declared.event.Event.{Event}
use Rattle.version_core.specs.declared.event.Reply.{Reply}
use Rattle.version_core.specs.declared.state.Worker.{Worker}
use Rattle.version_core.specs.declared.state.Shelf.{Shelf}
use Rattle.shelf_steps.specs.declared.edition.Edition.{Edition}
use Rattle.shelf_steps.specs.declared.views.KnownHistory.{KnownHistory}
use Rattle.shelf_steps.specs.declared.views.WorkerView.{WorkerView}
use Rattle.shelf_steps.specs.declared.views.LoaderView.{LoaderView}
use Rattle.shelf_steps.specs.declared.views.View.{View}
use Rattle.shelf_steps.specs.EventHistory.{LeadsToItsState, leading_to, Happened, FoundAt, IsEdition}
use Rattle.shelf_steps.specs.Slots.{down_from, nothings, slot_at}

-- the view is a worker's, and P holds of it
abbrev pub OfWorker : View → (WorkerView → Type 0) → Type 0
OfWorker (View.Working v) P = P v
OfWorker _ P = ⊥

-- what a seat knows, with the slots that are out with it
abbrev pub SeatAndSlots : Type 0
SeatAndSlots = Me (Option Edition) View

-- a seat, and the table that it is at
pub record TableSeatValue : Type 0 where
  pub table : TableId
  pub me : SeatAndSlots

-- the view after a look that found this word
abbrev pub looked_at : WorkerView → ℕ → KnownHistory → WorkerView
looked_at v n known = record v { now = Worker.Looked (n / 8) (n % 8); seen = n / 8; last = n / 8; passed = false; edition = None; known = known }

-- the shelf's word says that it is open with the version
abbrev pub is_open : ℕ → ℕ → Bool
is_open n version = (n / 256 % 4 == 1) && (n / 65536 == version)

-- the view after a take that found the version: the worker holds it on the shelf k, with its edition
abbrev pub holding : WorkerView → ℕ → ℕ → Edition → KnownHistory → WorkerView
holding v k version e known = record v { now = Worker.Holding k version; edition = Some e; known = known }

-- the view after a take that came late: the version last looked at is no longer current
abbrev pub come_late : WorkerView → ℕ → KnownHistory → WorkerView
come_late v k known = record v { now = Worker.Late k; passed = true; edition = None; known = known }

-- the view after a drop: the worker is idle
abbrev pub gone : WorkerView → KnownHistory → WorkerView
gone v known = record v { now = Worker.Idle; edition = None; known = known }

-- the history that is known leads to a state in which the worker is doing and has seen what its view says
abbrev pub ShowsIn : WorkerView → Type 0
ShowsIn v = (s : State) × LeadsToItsState (leading_to s v.known) × WorkerShows v.number v.now v.seen s

-- the step `Looking`: the version that it finds is no older than any that was seen, and greater than the one last looked at if the take of that came
-- late
abbrev pub Looks : SeatAndSlots → ℕ → SeatAndSlots → Type 0
Looks m n m' = OfWorker m.0 (λ v.
    (known : KnownHistory) × (m' ≡ (View.Working (looked_at v n known), m.1))
    × Happened v.known (Event.Look v.number) (Reply.Looked (n / 8) (n % 8)) known
    × (v.seen ≤ n / 8) × (v.passed ≡ true → v.last < n / 8) × ShowsIn (looked_at v n known))

-- a take that found the word n: if the shelf was open with the version that was looked at (true), the worker holds it, with its edition in the slot;
-- otherwise (false) the worker is late
abbrev pub TakesFound : WorkerView × List (ℕ × Option Edition) → ℕ × ℕ → ℕ → Bool → SeatAndSlots → Type 0
TakesFound (v, c) (version, k) n true m' =
    (e : Edition) × (known : KnownHistory) × (m' ≡ (View.Working (holding v k version e known), (slot_at k v.number, Some e) ∷ c))
    × Happened v.known (Event.Take v.number) (Reply.Holds version) known × IsEdition known.images version (Some e) × ShowsIn (holding v k version e known)
    × FoundAt known (Event.Take v.number) k n
TakesFound (v, c) (version, k) n false m' =
    (known : KnownHistory) × (m' ≡ (View.Working (come_late v k known), c)) × Happened v.known (Event.Take v.number) Reply.Late known × ShowsIn
    (come_late v k known)
    × FoundAt known (Event.Take v.number) k n

-- the same of a worker that has looked; no other takes a shelf
abbrev pub TakesAs : WorkerView → List (ℕ × Option Edition) → Worker → ℕ → SeatAndSlots → Type 0
TakesAs v c (Worker.Looked version k) n m' = TakesFound (v, c) (version, k) n (is_open n version) m'
TakesAs v c _ n m' = ⊥

-- the step `Taking`, which found the word n on the shelf that the worker saw
abbrev pub Takes : SeatAndSlots → ℕ → SeatAndSlots → Type 0
Takes m n m' = OfWorker m.0 (λ v. TakesAs v m.1 v.now n m')

-- the step `Leaving`: the worker is idle again, and the slots that are out stay out
abbrev pub Leaves : SeatAndSlots → SeatAndSlots → Type 0
Leaves m m' = OfWorker m.0 (λ v. (known : KnownHistory) × (m' ≡ (View.Working (gone v known), m.1))
    × Happened v.known (Event.Drop v.number) Reply.Dropped known × ShowsIn (gone v known))

-- the step `GivingBack`: the worker is idle again, and its slot is no longer out
abbrev pub GivesBack : SeatAndSlots → SeatAndSlots → Type 0
GivesBack m m' = OfWorker m.0 (λ v. (known : KnownHistory) × (m' ≡ (View.Working (gone v known), []))
    × Happened v.known (Event.Drop v.number) Reply.Dropped known × ShowsIn (gone v known))

-- the view is that of an idle worker
abbrev pub ShowsIdle : View → Type 0
ShowsIdle u = OfWorker u (λ v. v.now ≡ Worker.Idle)

-- the worker has looked, and saw this shelf
abbrev pub ShowsLooked : ℕ → View → Type 0
ShowsLooked k u = OfWorker u (λ v. (version : ℕ) × (v.now ≡ Worker.Looked version k))

-- the worker is late at this shelf
abbrev pub ShowsLate : ℕ → View → Type 0
ShowsLate k u = OfWorker u (λ v. v.now ≡ Worker.Late k)

-- the worker holds the shelf, and has its slot of it out, with the edition in it
abbrev pub HoldsOut : ℕ → View → List (ℕ × Option Edition) → Type 0
HoldsOut k u c = OfWorker u (λ v. (version : ℕ) × (v.now ≡ Worker.Holding k version) × (c ≡ (slot_at k v.number, v.edition) ∷ []))

-- the view is the loader's, and P holds of it
abbrev pub OfLoader : View → (LoaderView → Type 0) → Type 0
OfLoader (View.Loading l) P = P l
OfLoader _ P = ⊥

-- the version that was opened last
abbrev pub newest_of : LoaderView → ℕ
newest_of l = length l.known.images

-- the shelf is open with the version, and no shelf's slots are out with the loader
abbrev pub with_open : LoaderView → ℕ → ℕ → KnownHistory → LoaderView
with_open l k version known = record l { shelves = slice_set l.shelves k (Shelf.Open version); hand = None; known = known }

-- the version is current, on the shelf k
abbrev pub with_current : LoaderView → ℕ → ℕ → KnownHistory → LoaderView
with_current l version k known = record l { current = version; current_shelf = k; known = known }

-- the shelf is closing with the version
abbrev pub with_closing : LoaderView → ℕ → ℕ → KnownHistory → LoaderView
with_closing l k version known = record l { shelves = slice_set l.shelves k (Shelf.Closing version); known = known }

-- the shelf is free, and its slots are out with the loader
abbrev pub with_free : LoaderView → ℕ → KnownHistory → LoaderView
with_free l k known = record l { shelves = slice_set l.shelves k Shelf.Free; hand = Some k; known = known }

-- the slots of the free shelf `hand` are out with the loader, or no slots if `hand` is None
abbrev pub with_hand : LoaderView → Option ℕ → KnownHistory → LoaderView
with_hand l hand known = record l { hand = hand; known = known }

-- the slot has this version with this image
abbrev pub IsFilledWith : ℕ → ImageValue → Option Edition → Type 0
IsFilledWith version image edition = (e : Edition) × (edition ≡ Some e) × (e.version ≡ version) × (arc_value e.image ≡ image)

-- the sixteen slots of the shelf k, the last of which lies at the front
abbrev pub IsBlock : (ℕ → Option Edition) → ℕ → List (ℕ × Option Edition) → Type 0
IsBlock f k c = c ≡ down_from f (16 * k) 16 []

-- the sixteen slots of the shelf k have the version with the image
abbrev pub AllHave : ℕ → ImageValue → ℕ → (ℕ → Option Edition) → Type 0
AllHave version image k f = (j : ℕ) → 16 * k ≤ j → j < 16 * k + 16 → IsFilledWith version image (f j)

-- the event is the loader's last, and no image is new
abbrev pub IsLastEvent : LoaderView → Event → Reply → KnownHistory → Type 0
IsLastEvent l e r known = Happened l.known e r known × (known.images ≡ l.known.images)

-- the image in the slots of the block becomes the next version
abbrev pub OpensOn : ℕ → SeatAndSlots → SeatAndSlots → Type 0
OpensOn k m m' = OfLoader m.0 (λ l.
    (image : ImageValue) × (f : ℕ → Option Edition) × (known : KnownHistory) × IsBlock f k m.1 × AllHave (newest_of l + 1) image k f
    × (m' ≡ (View.Loading (with_open l k (newest_of l + 1) known), []))
    × Happened l.known (Event.Open (newest_of l)) (Reply.Opened (newest_of l + 1) k) known × (known.images ≡ l.known.images ++ image ∷ []))

-- the step `Opening`, on the word of a shelf
abbrev pub Opens : Step (Option Edition) → SeatAndSlots → ℕ → SeatAndSlots → Type 0
Opens st m n m' = (k : ℕ) × (st.word ≡ k + 1) × OpensOn k m m'

-- the version on the shelf k becomes the current one, and the slots that are out stay out
abbrev pub PublishesOn : ℕ → ℕ → SeatAndSlots → SeatAndSlots → Type 0
PublishesOn version k m m' = OfLoader m.0 (λ l. (known : KnownHistory)
    × (m' ≡ (View.Loading (with_current l version k known), m.1))
    × IsLastEvent l Event.Publish (Reply.Published version) known)

-- the step `Publishing`, which stores eight times the version plus its shelf
abbrev pub Publishes : Step (Option Edition) → SeatAndSlots → ℕ → SeatAndSlots → Type 0
Publishes st m n m' = (version k : ℕ) × (st.first ≡ 8 * version + k) × (k < 8) × PublishesOn version k m m'

-- the shelf k, which is open, is closing with its version
abbrev pub ClosesOn : ℕ → SeatAndSlots → SeatAndSlots → Type 0
ClosesOn k m m' = OfLoader m.0 (λ l.
    (version : ℕ) × (known : KnownHistory) × (slice_get l.shelves k ≡ Some (Shelf.Open version))
    × (m' ≡ (View.Loading (with_closing l k version known), m.1)) × IsLastEvent l (Event.Close k) Reply.Closing known)

-- the step `Closing`, on the word of a shelf
abbrev pub Closes : Step (Option Edition) → SeatAndSlots → ℕ → SeatAndSlots → Type 0
Closes st m n m' = (k : ℕ) × (st.word ≡ k + 1) × ClosesOn k m m'

-- the words of a shelf with this version at which no worker is: once it is open, and once it is closing
abbrev pub open_word : ℕ → ℕ
open_word version = 256 + 65536 * version

abbrev pub closing_word : ℕ → ℕ
closing_word version = 512 + 65536 * version

-- a collection that found the word n: the shelf is free and its slots are out with the loader (true), or its count was above 0 (false)
abbrev pub CollectsFound : LoaderView → ℕ → ℕ → Bool → SeatAndSlots → Type 0
CollectsFound l k n true m' =
    (f : ℕ → Option Edition) × (known : KnownHistory) × (m' ≡ (View.Loading (with_free l k known), down_from f (16 * k) 16 []))
    × IsLastEvent l (Event.Collect k) Reply.Freed known × FoundAt known (Event.Collect k) k n
CollectsFound l k n false m' =
    (known : KnownHistory) × (m' ≡ (View.Loading (with_hand l None known), [])) × IsLastEvent l (Event.Collect k) (Reply.Busy (n % 256)) known × (0 < n % 256)
    × FoundAt known (Event.Collect k) k n

-- the shelf is free if the word n says that it was closing with the version and that its count was 0
abbrev pub CollectsOn : ℕ → ℕ → ℕ → SeatAndSlots → SeatAndSlots → Type 0
CollectsOn k version n m m' = OfLoader m.0 (λ l. CollectsFound l k n (n == closing_word version) m')

-- the step `Collecting`, on the word of a shelf, which expects exactly that word
abbrev pub Collects : Step (Option Edition) → SeatAndSlots → ℕ → SeatAndSlots → Type 0
Collects st m n m' = (k version : ℕ) × (st.word ≡ k + 1) × (st.first ≡ closing_word version) × CollectsOn k version n m m'

-- the empty slots of a free shelf go out with the loader
abbrev pub GathersOn : ℕ → SeatAndSlots → SeatAndSlots → Type 0
GathersOn k m m' = OfLoader m.0 (λ l. (known : KnownHistory)
    × (m' ≡ (View.Loading (with_hand l (Some k) known), down_from nothings (16 * k) 16 []))
    × IsLastEvent l (Event.Collect k) Reply.NotNow known)

-- the step `Gathering`, on the word of a shelf
abbrev pub Gathers : Step (Option Edition) → SeatAndSlots → ℕ → SeatAndSlots → Type 0
Gathers st m n m' = (k : ℕ) × (st.word ≡ k + 1) × GathersOn k m m'

-- the empty slots of a free shelf come home, and none are out with the loader
abbrev pub PutsBackOn : ℕ → SeatAndSlots → SeatAndSlots → Type 0
PutsBackOn k m m' = OfLoader m.0 (λ l. (known : KnownHistory) × (m' ≡ (View.Loading (with_hand l None known), [])) × IsLastEvent l
    (Event.Collect k) Reply.NotNow known)

-- the step `PuttingBack`, on the word of a shelf
abbrev pub PutsBack : Step (Option Edition) → SeatAndSlots → ℕ → SeatAndSlots → Type 0
PutsBack st m n m' = (k : ℕ) × (st.word ≡ k + 1) × PutsBackOn k m m'

-- what each step of the loader requires of its view and its slots. To open: the shelf is free, its slots are out with the loader, each filled with
-- the next version and its image, and no version is open and unpublished
abbrev pub MayOpenOn : ℕ → ℕ → View → List (ℕ × Option Edition) → Type 0
MayOpenOn k version u c = OfLoader u (λ l.
    (slice_get l.shelves k ≡ Some Shelf.Free) × (l.hand ≡ Some k) × (l.current ≡ newest_of l) × (version ≡ newest_of l + 1) × (version ≤ most_versions)
    × ((image : ImageValue) × (f : ℕ → Option Edition) × IsBlock f k c × AllHave version image k f))

-- to publish: the shelf is open with the version, which is above the current one
abbrev pub MayPublish : ℕ → ℕ → View → Type 0
MayPublish version k u = OfLoader u (λ l. (slice_get l.shelves k ≡ Some (Shelf.Open version)) × (l.current < version))

-- to close: the shelf is open with a version below the current one
abbrev pub MayCloseShelf : ℕ → View → Type 0
MayCloseShelf k u = OfLoader u (λ l. (version : ℕ) × (slice_get l.shelves k ≡ Some (Shelf.Open version)) × (version < l.current))

-- to collect: the shelf is closing with the version, and no slots are out with the loader
abbrev pub MayCollect : ℕ → ℕ → View → List (ℕ × Option Edition) → Type 0
MayCollect k version u c = OfLoader u (λ l. (slice_get l.shelves k ≡ Some (Shelf.Closing version)) × (l.hand ≡ None) × (c ≡ []))

-- to gather: the shelf is free, and no slots are out with the loader
abbrev pub MayGather : ℕ → View → List (ℕ × Option Edition) → Type 0
MayGather k u c = OfLoader u (λ l. (slice_get l.shelves k ≡ Some Shelf.Free) × (l.hand ≡ None) × (c ≡ []))

-- to put back: the shelf is free, and its slots are out with the loader, empty
abbrev pub MayPutBack : ℕ → View → List (ℕ × Option Edition) → Type 0
MayPutBack k u c = OfLoader u (λ l. (slice_get l.shelves k ≡ Some Shelf.Free) × (l.hand ≡ Some k) × IsBlock nothings k c)

-- a worker that has done nothing and knows nothing
abbrev pub newcomer : ℕ → WorkerView
newcomer w = record {
  number = w;
  now = Worker.Idle;
  seen = 0;
  last = 0;
  passed = false;
  edition = None;
  joined = [];
  known = record { events = []; replies = []; images = [] };
}

-- one more worker's seat was handed out
abbrev pub one_more : LoaderView → LoaderView
one_more l = record l { handed = l.handed + 1 }

-- what a split that hands out a seat leaves of the loader's view
abbrev pub keeps_loading : View → View
keeps_loading (View.Loading l) = View.Loading (one_more l)
keeps_loading u = u

-- the view that such a split gives: that of a newcomer with the next number
abbrev pub new_worker_view : View → View
new_worker_view (View.Loading l) = View.Working (newcomer l.handed)
new_worker_view u = u

-- the view is the loader's, and fewer than sixteen seats were handed out
abbrev pub MayHandOut : View → Type 0
MayHandOut u = OfLoader u (λ l. l.handed < 16)

-- one more notice went out
abbrev pub with_note : LoaderView → LoaderView
with_note l = record l { notes = l.notes + 1 }

-- what a split that gives a notice leaves of the loader's view
abbrev pub gives_notice : View → View
gives_notice (View.Loading l) = View.Loading (with_note l)
gives_notice u = u

-- the notice that is split from the loader's view
abbrev pub new_notice : View → View
new_notice (View.Loading l) = View.Noting l.current
new_notice u = View.Spent

-- the view is the loader's
abbrev pub IsLoading : View → Type 0
IsLoading u = OfLoader u (λ l. Unit {0})

-- the worker has seen this version too, by a notice
abbrev pub with_seen : WorkerView → ℕ → WorkerView
with_seen v n = record v { seen = max v.seen n; joined = v.joined ++ n ∷ [] }

-- what a worker knows once it has taken in a notice
abbrev pub joins_notice : View → View → View
joins_notice (View.Working v) (View.Noting n) = View.Working (with_seen v n)
joins_notice u w = u

-- the worker is idle or holds a version
abbrev pub ShowsSettled : View → Type 0
ShowsSettled u = OfWorker u (λ v. (v.now ≡ Worker.Idle) ⊎ ((k x : ℕ) × (v.now ≡ Worker.Holding k x)))

-- a notice of the version: its view, with no slot out
abbrev pub IsNotice : ℕ → SeatAndSlots → Type 0
IsNotice version m = m ≡ (View.Noting version, [])
