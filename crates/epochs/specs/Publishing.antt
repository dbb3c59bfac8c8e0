-- What a loader does to a table: it publishes images, and collects the shelves that no worker needs.
use Rattle.std.specs.Prelude.{◌≡◌, ◌≢◌, ℕ, zero, suc, ◌+◌, ◌<◌, Bool, true, false, List, [], ◌∷◌, ◌++◌, slice_get, slice_index, Option, Some, ◌⊎◌}
use Rattle.image_layout.specs.Image.{ImageValue}
use Rattle.version_core.specs.declared.event.Event.{Event}
use Rattle.version_core.specs.declared.event.Reply.{Reply}
use Rattle.version_core.specs.declared.state.Shelf.{Shelf}
use Rattle.version_core.specs.State.{State, most_versions, newest}
use Rattle.version_core.specs.Steps.{IsFree}
use Rattle.version_core.specs.Runs.{Run, IsRun}
use Rattle.shelves.specs.declared.faults.PublishFault.{PublishFault}
use Rattle.shelves.specs.declared.collected.Collected.{Collected}
use Rattle.epochs.specs.History.{TableValue}

-- the try at a shelf, if it is closing
abbrev pub try_at : ℕ → Option Shelf → List Event
try_at k (Some (Shelf.Closing v)) = Event.Collect k ∷ []
try_at k _ = []

-- a try at each closing shelf below n
abbrev pub tries : List Shelf → ℕ → List Event
tries shelves zero = []
tries shelves (suc k) = tries shelves k ++ try_at k (slice_get shelves k)

-- a shelf that is closing with no worker there is freed, and one with workers there is busy
abbrev pub is_freed : Shelf → ℕ → Bool
is_freed (Shelf.Closing v) zero = true
is_freed _ _ = false

abbrev pub busy_count : Shelf → ℕ → ℕ
busy_count (Shelf.Closing v) count = count
busy_count _ _ = 0

abbrev pub shelf_after_try : Shelf → ℕ → Shelf
shelf_after_try (Shelf.Closing v) zero = Shelf.Free
shelf_after_try shelf _ = shelf

-- a try at the shelf, if it is closing, and what it found
pub record TriesShelf (a : TableValue) (k : ℕ) (freed : Bool) (busy : ℕ) (b : TableValue) : Type 0 where
  pub run : IsRun a.state (try_at k (slice_get a.state.shelves k)) b.state
  pub events : b.events ≡ a.events ++ try_at k (slice_get a.state.shelves k)
  pub images : b.images ≡ a.images
  pub state : b.state ≡ record a.state { shelves = b.state.shelves }
  pub others : (j : ℕ) → j ≢ k → slice_get b.state.shelves j ≡ slice_get a.state.shelves j
  pub found : (shelf : Shelf) → slice_get a.state.shelves k ≡ Some shelf
      → (freed ≡ is_freed shelf (slice_index a.state.counts k))
      × (busy ≡ busy_count shelf (slice_index a.state.counts k))
      × (slice_get b.state.shelves k ≡ Some (shelf_after_try shelf (slice_index a.state.counts k)))

-- a try at each closing shelf, and what they found
pub record TriesClosing (a : TableValue) (found : Collected) (b : TableValue) : Type 0 where
  pub run : IsRun a.state (tries a.state.shelves 8) b.state
  pub events : b.events ≡ a.events ++ tries a.state.shelves 8
  pub images : b.images ≡ a.images
  pub state : b.state ≡ record a.state { shelves = b.state.shelves }
  pub each : (k : ℕ) (shelf : Shelf) → slice_get a.state.shelves k ≡ Some shelf
      → (slice_get found.freed k ≡ Some (is_freed shelf (slice_index a.state.counts k)))
      × (slice_get found.busy k ≡ Some (busy_count shelf (slice_index a.state.counts k)))
      × (slice_get b.state.shelves k ≡ Some (shelf_after_try shelf (slice_index a.state.counts k)))

abbrev pub SomeIsFree : State → Type 0
SomeIsFree s = (k : ℕ) × IsFree s k

-- if no shelf is free, shelves are collected; otherwise nothing changes
abbrev pub MakesRoom : TableValue → TableValue → Type 0
MakesRoom a b = (SomeIsFree a.state × (b ≡ a)) ⊎ ((¬ (SomeIsFree a.state)) × ((found : Collected) × TriesClosing a found b))

-- the image becomes the next version, which is current, and the shelf of the version before is closing
pub record PublishesNext (a : TableValue) (image : ImageValue) (version : ℕ) (b : TableValue) : Type 0 where
  pub shelf : ℕ
  pub free : IsFree a.state shelf
  pub least : (j : ℕ) → j < shelf → ¬ (IsFree a.state j)
  pub next : version ≡ newest a.state + 1
  pub run : Run a.state (Event.Open (newest a.state) ∷ Event.Publish ∷ Event.Close a.state.current_shelf
      ∷ []) (Reply.Opened version shelf ∷ Reply.Published version ∷ Reply.Closing ∷ []) b.state
  pub events : b.events ≡ a.events ++ Event.Open (newest a.state) ∷ Event.Publish ∷ Event.Close a.state.current_shelf ∷ []
  pub images : b.images ≡ a.images ++ image ∷ []
  pub current : b.state.current ≡ version

-- the counts are above 0 for each shelf but the current one, and 0 for that
pub record AreAllInUse (s : State) (counts : List ℕ) : Type 0 where
  pub current : slice_index counts s.current_shelf ≡ 0
  pub others : (k : ℕ) → k < 8 → k ≢ s.current_shelf → 0 < slice_index counts k

-- what a publish that is refused with a fault tells of the table, and what it did before
abbrev pub RefusesPublish : TableValue → PublishFault → TableValue → Type 0
RefusesPublish a PublishFault.VersionsSpent b = (newest a.state ≡ most_versions) × (b ≡ a)
RefusesPublish a (PublishFault.ShelvesFull counts) b =
    (newest a.state < most_versions) × (¬ (SomeIsFree a.state)) × ((found : Collected) × TriesClosing a found b × (counts ≡ found.busy))
    × AreAllInUse a.state counts
RefusesPublish a PublishFault.OutOfMemory b = (newest a.state < most_versions) × MakesRoom a b × SomeIsFree b.state

-- the current version, its shelf and all images are as they were
pub record StaysCurrent (a b : TableValue) : Type 0 where
  pub current : b.state.current ≡ a.state.current
  pub shelf : b.state.current_shelf ≡ a.state.current_shelf
  pub images : b.images ≡ a.images
