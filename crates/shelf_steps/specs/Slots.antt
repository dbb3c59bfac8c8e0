-- Where the slots are. For each shelf and worker there is one, 16 to a shelf.
use Rattle.image_layout.specs.Image.{ImageValue}
use Rattle.std.specs.Prelude.{◌≡◌, ◌≢◌, ℕ, zero, suc, ◌+◌, ◌*◌, ◌<◌, ◌⊎◌, List, ◌∷◌, Option, Some, None, slice_get}
use mathlib.Core.Option.{Option as Maybe, some, none}
use lib.ListN.{get_elem?}
use Rattle.version_core.specs.declared.state.Shelf.{Shelf}
use Rattle.version_core.specs.declared.state.Worker.{Worker}
use Rattle.shelf_steps.specs.declared.edition.Edition.{Edition}
use Rattle.shelf_steps.specs.EventHistory.{IsEdition}

-- the number of a worker's slot of a shelf
abbrev pub slot_at : ℕ → ℕ → ℕ
slot_at shelf worker = 16 * shelf + worker

-- a slot as it is found: `some (some x)` if it is at home with x in it, `some none` if it is out with a seat
abbrev pub Slot : Type 0
Slot = Maybe (Maybe (Option Edition))

-- the slot is out with its own worker, if that holds the shelf; if not, it is at home with the version's edition
abbrev pub IsFilled : List ImageValue → Option Worker → ℕ → ℕ → Slot → Type 0
IsFilled images worker k v slot =
    ((x : Option Edition) × (slot ≡ some (some x)) × IsEdition images v x × (worker ≢ Some (Worker.Holding k v)))
    ⊎ ((slot ≡ some none) × (worker ≡ Some (Worker.Holding k v)))

-- the slot is at home and empty, or out with the loader
abbrev pub IsSpare : Option ℕ → ℕ → Slot → Type 0
IsSpare hand k slot = ((hand ≢ Some k) × (slot ≡ some (some None))) ⊎ ((hand ≡ Some k) × (slot ≡ some none))

-- what decides where slots are: the images of all versions, what the workers are doing, and the shelf whose slots are out with the loader
pub record SlotHolders : Type 0 where
  pub images : List ImageValue
  pub workers : List Worker
  pub hand : Option ℕ

abbrev pub held_by : List ImageValue → List Worker → Option ℕ → SlotHolders
held_by images workers hand = record { images = images; workers = workers; hand = hand }

-- the slot of a free shelf is spare; that of any other shelf is filled, and the loader has no slot of that shelf in its hand
abbrev pub SlotFits : SlotHolders → Shelf → ℕ → ℕ → Slot → Type 0
SlotFits by Shelf.Free k w slot = IsSpare by.hand k slot
SlotFits by (Shelf.Open v) k w slot = (by.hand ≢ Some k) × IsFilled by.images (slice_get by.workers w) k v slot
SlotFits by (Shelf.Closing v) k w slot = (by.hand ≢ Some k) × IsFilled by.images (slice_get by.workers w) k v slot

-- each slot fits its shelf
abbrev pub SlotsFit : List (Maybe (Option Edition)) → List Shelf → List Worker → List ImageValue → Option ℕ → Type 0
SlotsFit homes shelves workers images hand =
    (k w : ℕ) (x : Shelf) → slice_get shelves k ≡ Some x → w < 16
    → SlotFits (held_by images workers hand) x k w (get_elem? homes (slot_at k w))

-- n slots with their contents, from k + n - 1 down to k, followed by those of c
abbrev pub down_from : {S : Type 0} → (ℕ → S) → ℕ → ℕ → List (ℕ × S) → List (ℕ × S)
down_from f k zero c = c
down_from f k (suc n) c = (k + n, f (k + n)) ∷ down_from f k n c

-- an empty slot, whatever its number
abbrev pub nothings : ℕ → Option Edition
nothings j = None
