-- The table of versions beside its history.
use Rattle.std.specs.Prelude.{◌≡◌, ℕ, List, length, slice_get, Option, Some, None}
use Rattle.image_layout.specs.Image.{ImageValue}
use Rattle.version_core.specs.declared.event.Event.{Event}
use Rattle.version_core.specs.declared.state.Shelf.{Shelf}
use Rattle.version_core.specs.State.{State, start, newest}
use Rattle.version_core.specs.Steps.{Holds}
use Rattle.version_core.specs.Runs.{IsRun}
use Rattle.version_core.specs.Rest.{IsAtRest}
use Rattle.shelf_steps.specs.declared.edition.Edition.{Edition}
pub use Rattle.shelf_steps.specs.EventHistory.{image_of, IsEdition}

pub record TableValue : Type 0 where
  pub state : State
  pub events : List Event  -- all that happened since the start
  pub images : List ImageValue  -- of version 1, then of version 2, and so on

-- what stands on a shelf
abbrev pub StandsOn : List ImageValue → Shelf → Option Edition → Type 0
StandsOn images Shelf.Free edition = edition ≡ None
StandsOn images (Shelf.Open v) edition = IsEdition images v edition
StandsOn images (Shelf.Closing v) edition = IsEdition images v edition

-- the events lead from the start to the state, which is between two loads. Edition numbers are indices in the list of images
pub record IsHistory (state : State) (events : List Event) (images : List ImageValue) : Type 0 where
  pub run : IsRun start events state
  pub rest : IsAtRest state
  pub as_many : length images ≡ newest state
  pub numbered : (i edition : ℕ) → slice_get state.editions i ≡ Some edition → edition ≡ i

-- each version that a worker holds has an image
abbrev pub HeldHaveImages : State → List ImageValue → Type 0
HeldHaveImages s images = (w k v : ℕ) → Holds s w k v → (image : ImageValue) × (image_of images v ≡ Some image)

-- each shelf has the edition of its version, and a free one has none
pub record AreShelved (shelves : List Shelf) (editions : List (Option Edition)) (images : List ImageValue) : Type 0 where
  pub eight : length editions ≡ 8
  pub each : (k : ℕ) (shelf : Shelf) (edition : Option Edition) → slice_get shelves k ≡ Some shelf
      → slice_get editions k ≡ Some edition → StandsOn images shelf edition
