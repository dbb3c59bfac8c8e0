-- What the calls of the loader's seat do at shelves without a lock.
use Rattle.std.specs.Prelude.{◌≡◌, ◌≢◌, ℕ, zero, suc, ◌+◌, ◌<◌, ◌≤◌, ◌⊎◌, Bool, true, false, List, [], length, slice_get, slice_index_or, Option, Some, None}
use Rattle.atomic_table.specs.Seated.{TableId}
use Rattle.version_core.specs.declared.state.Shelf.{Shelf}
use Rattle.version_core.specs.State.{State, most_versions, start}
use Rattle.version_core.specs.Runs.{Run}
use Rattle.shelf_steps.specs.declared.views.KnownHistory.{KnownHistory}
use Rattle.shelf_steps.specs.declared.views.LoaderView.{LoaderView}
use Rattle.shelf_steps.specs.declared.views.View.{View}
use Rattle.shelves.specs.declared.faults.PublishFault.{PublishFault}
use Rattle.shelves.specs.declared.collected.Collected.{Collected}
use Rattle.image_layout.specs.Image.{ImageValue}
use Rattle.shelves.specs.declared.answers.LoaderAnswer.{LoaderAnswer}
use Rattle.shelf_steps.specs.Plays.{OfLoader, SeatAndSlots, newest_of, gives_notice}
use Rattle.shelf_steps.specs.Loading.{Loads, Frees, FindsBusy}
use Rattle.shelf_steps.specs.EventHistory.{LeadsToItsState, leading_to}
use Rattle.shelf_steps.specs.Events.{known_of}
use Rattle.shelves.specs.Seats.{ShowsPublish, ShowsRefusal, ShowsCollection}
use Rattle.shelves.specs.Words.{LoaderStillFits, LoaderWords}
use Rattle.shelves.specs.SeatHistory.{IsPublished, EndsPublish, FindsByTries, EachClosingIsTried, IsFullByTries, EndsRefused}

-- the shelves that the seat is at, what it knows, the current version, and what it was answered
pub record ShelfLoaderValue : Type 0 where
  pub table : TableId
  pub view : View
  pub current : ℕ
  pub answers : List LoaderAnswer

-- between two loads: no slot is out, nothing is unpublished, and what the seat remembers is true
pub record Rests (current current_shelf : ℕ) (shelves : List Shelf) (l : LoaderView) : Type 0 where
  pub empty : l.hand ≡ None
  pub newest : l.current ≡ newest_of l
  pub current_is : l.current ≡ current
  pub current_shelf_is : l.current_shelf ≡ current_shelf
  pub shelves_are : l.shelves ≡ shelves
  pub few : (0 < current) × (current ≤ most_versions)
  pub small : (current_shelf < 8) × (length shelves ≡ 8)
  pub stands : slice_get shelves current_shelf ≡ Some (Shelf.Open current)
  pub one_open : (k v : ℕ) → slice_get shelves k ≡ Some (Shelf.Open v) → k ≡ current_shelf
  pub closing : (k v : ℕ) → slice_get shelves k ≡ Some (Shelf.Closing v) → v ≤ most_versions

-- what is known leads to a state, and each state to which it leads has these shelves
pub record LeadsToShelves (known : KnownHistory) (shelves : List Shelf) : Type 0 where
  pub state : State
  pub history : LeadsToItsState (leading_to state known)
  pub each : (s : State) → Run start known.events known.replies s → s.shelves ≡ shelves

-- the shelves of the loader's view are those to which all that it knows leads
abbrev pub KnowsShelves : View → Type 0
KnowsShelves u = OfLoader u (λ l. LeadsToShelves l.known l.shelves)

abbrev pub RestsHere : ℕ → ℕ → List Shelf → SeatAndSlots → Type 0
RestsHere current current_shelf shelves m = OfLoader m.0 (λ l. Rests current current_shelf shelves l) × (m.1 ≡ []) × KnowsShelves m.0

-- a try at the shelf, if it is closing, and what it found: whether it was freed, and how many workers were late at it or held it
abbrev pub TriedShelf : ℕ → Option Shelf → View → Bool × ℕ → View → Type 0
TriedShelf k (Some (Shelf.Closing v)) u (true, busy) u' = (busy ≡ 0) × Frees k u u'
TriedShelf k (Some (Shelf.Closing v)) u (false, busy) u' = FindsBusy k busy u u'
TriedShelf k _ u (freed, busy) u' = (freed ≡ false) × (busy ≡ 0) × (u' ≡ u)

abbrev pub shelf_of : View → ℕ → Option Shelf
shelf_of (View.Loading l) k = slice_get l.shelves k
shelf_of _ k = None

-- a try at each closing shelf below n, one after another
abbrev pub TriesBelow : ℕ → View → List Bool → List ℕ → View → Type 0
TriesBelow zero u freed busy u' = u' ≡ u
TriesBelow (suc k) u freed busy u' = (mid : View) × TriesBelow k u freed busy mid
    × TriedShelf k (shelf_of mid k) mid (slice_index_or freed k false, slice_index_or busy k 0) u'

-- a try at each of the eight shelves that is closing, by the loader's view and by the history that it knows
abbrev pub CollectsBySteps : View → Collected → View → Type 0
CollectsBySteps u found u' = TriesBelow 8 u found.freed found.busy u' × EachClosingIsTried (known_of u) found

abbrev pub IsFreeIn : View → ℕ → Type 0
IsFreeIn u k = shelf_of u k ≡ Some Shelf.Free

abbrev pub HasFree : View → Type 0
HasFree u = (k : ℕ) × IsFreeIn u k

abbrev pub IsLeastFree : View → ℕ → Type 0
IsLeastFree u k = IsFreeIn u k × ((j : ℕ) → j < k → ¬ (IsFreeIn u j))

-- if no shelf was free, each closing one was tried
abbrev pub MakesRoomBySteps : View → View → Type 0
MakesRoomBySteps u u' = (HasFree u × (u' ≡ u)) ⊎ ((¬ (HasFree u)) × ((found : Collected) × CollectsBySteps u found u'))

-- the image is the next version, on the least free shelf
abbrev pub PublishesBySteps : View → ImageValue → ℕ → View → Type 0
PublishesBySteps u image version u' = (shelf : ℕ) × IsLeastFree u shelf × Loads shelf version image u u'

-- the same, and then one notice of the version goes out
abbrev pub PublishesWithNotice : View → ImageValue → ℕ → View → Type 0
PublishesWithNotice u image version u' = (loaded : View) × PublishesBySteps u image version loaded × (u' ≡ gives_notice loaded)

-- the counts are above 0 for each shelf but the current one, and 0 for that
abbrev pub AreFull : View → List ℕ → Type 0
AreFull u counts = OfLoader u (λ l. (l.current_shelf < 8) × (slice_index_or counts l.current_shelf 0 ≡ 0)
    × ((k : ℕ) → k < 8 → k ≢ l.current_shelf → 0 < slice_index_or counts k 0))

-- a version number is left
abbrev pub IsUnspent : View → Type 0
IsUnspent u = OfLoader u (λ l. l.current < most_versions)

-- a publish is refused with VersionsSpent only if the last version is current, and with another fault only if it isn't
abbrev pub IsSpentAt : ℕ → PublishFault → Type 0
IsSpentAt current PublishFault.VersionsSpent = current ≡ most_versions
IsSpentAt current _ = current < most_versions

-- no version number is left; or the counts of workers at each shelf but the current one are those that the tries of this call found; or there was no
-- memory, before a shelf was opened
abbrev pub RefusesBySteps : View → PublishFault → View → Type 0
RefusesBySteps u PublishFault.VersionsSpent u' = OfLoader u (λ l. l.current ≡ most_versions) × (u' ≡ u)
RefusesBySteps u PublishFault.OutOfMemory u' = IsUnspent u × MakesRoomBySteps u u' × HasFree u'
RefusesBySteps u (PublishFault.ShelvesFull counts) u' =
    IsUnspent u × (¬ (HasFree u)) × ((found : Collected) × CollectsBySteps u found u' × (counts ≡ found.busy))
    × (¬ (HasFree u')) × AreFull u counts

-- what contracts say of this seat
abbrev pub shelf_loader : LoaderWords TableId ShelfLoaderValue
shelf_loader = record {
  fits = λ shelves loader. loader.table ≡ shelves;
  answers = λ loader. loader.answers;
  current = λ loader. loader.current;
  known = λ loader. known_of loader.view;
}

-- the version is the next one, and current from then on
pub record IsNext (a : ShelfLoaderValue) (version : ℕ) (b : ShelfLoaderValue) : Type 0 where
  pub next : version ≡ a.current + 1
  pub current : b.current ≡ version

-- the image is published as this version, and one notice of it goes out
pub record PublishesImage (a : ShelfLoaderValue) (image : ImageValue) (version : ℕ) (b : ShelfLoaderValue) : Type 0 where
  pub still : LoaderStillFits shelf_loader a.table a b
  pub number : IsNext a version b
  pub loader : ShowsPublish a.answers image version b.answers
  pub steps : (room : View) × MakesRoomBySteps a.view room × PublishesWithNotice room image version b.view
  pub published : IsPublished (known_of b.view) version image
  pub ends : EndsPublish (known_of a.view) version (known_of b.view)

-- a publish is refused with this fault, and the current version stays
pub record RefusesImage (a : ShelfLoaderValue) (fault : PublishFault) (b : ShelfLoaderValue) : Type 0 where
  pub still : LoaderStillFits shelf_loader a.table a b
  pub current : b.current ≡ a.current
  pub loader : ShowsRefusal a.answers fault b.answers
  pub spent : IsSpentAt a.current fault
  pub steps : RefusesBySteps a.view fault b.view
  pub full : IsFullByTries (known_of a.view) fault (known_of b.view)
  pub refused : EndsRefused (known_of a.view) (known_of b.view)

-- each closing shelf is tried, and the current version stays
pub record CollectsShelves (a : ShelfLoaderValue) (found : Collected) (b : ShelfLoaderValue) : Type 0 where
  pub still : LoaderStillFits shelf_loader a.table a b
  pub current : b.current ≡ a.current
  pub loader : ShowsCollection a.answers found b.answers
  pub steps : CollectsBySteps a.view found b.view
  pub tries : FindsByTries (known_of a.view) found (known_of b.view)
  pub all : EachClosingIsTried (known_of a.view) found
