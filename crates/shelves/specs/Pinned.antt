-- What is pinned at shelves without a lock is left alone, and their seats know beginnings of one history.
use Rattle.std.specs.Prelude.{◌≡◌, ◌≢◌, ℕ, ◌+◌, [], ◌∷◌, Some, slice_index}
use mathlib.Core.Option.{some, none}
use lib.ListN.{get_elem?}
use Rattle.image_layout.specs.Image.{ImageValue}
use Rattle.version_core.specs.Invariants.{version_on}
use Rattle.shelf_steps.specs.declared.views.View.{View}
use Rattle.shelf_steps.specs.EventHistory.{NeverFreedSince, known_in_full, image_of}
use Rattle.shelf_steps.specs.Events.{known_of}
use Rattle.shelf_steps.specs.Plays.{closing_word}
use Rattle.shelf_steps.specs.Rule.{KeepsRule}
use Rattle.shelf_steps.specs.Slots.{slot_at}
use Rattle.shelf_steps.specs.Laws.{Shelved}
use Rattle.shelves.specs.SeatHistory.{Grows, IsPublished}
use Rattle.shelves.specs.ShelfSeats.{ShelfSeatValue, ShowsWhatItKnows}

-- the version is on a shelf, open or closing, with the image that the loader's list has for it; the seat's slot of that shelf is out with the seat,
-- and with nobody else: it isn't at home, and the loader has no slot of the shelf in its hand; the shelf's word isn't one at which a collection frees
-- the shelf; and no event has freed the shelf since the seat's last step
pub record IsLeftAlone (seat : ShelfSeatValue) (version : ℕ) (image : ImageValue) (table : Shelved) (r : KeepsRule table) : Type 0 where
  pub shelf : ℕ
  pub stands : version_on r.loader.shelves shelf ≡ Some version
  pub published : image_of r.loader.known.images version ≡ Some image
  pub slot : seat.slots ≡ slot_at shelf seat.number ∷ []
  pub out : get_elem? table.homes (slot_at shelf seat.number) ≡ some none
  pub not_loaders : r.loader.hand ≢ Some shelf
  pub in_use : (v : ℕ) → slice_index table.words (shelf + 1) ≢ closing_word v
  pub never_freed : NeverFreedSince shelf (known_of seat.view) r.history

-- while this seat shows that it holds a version, that version is left alone, at each moment between two steps of any seats
abbrev pub PinnedIsLeftAlone : ShelfSeatValue → Type 0
PinnedIsLeftAlone seat =
    (version : ℕ) (image : ImageValue) (table : Shelved) (i : ℕ) (r : KeepsRule table)
    → ShowsWhatItKnows seat → seat.shown.held ≡ Some (version, image) → get_elem? table.views i ≡ some seat.view
    → IsLeftAlone seat version image table r

abbrev pub PinnedAreLeftAlone : Type 0
PinnedAreLeftAlone = (seat : ShelfSeatValue) → PinnedIsLeftAlone seat

-- what a seat knows, a worker's or the loader's, is a beginning of the one history, at each moment between two steps of any seats
abbrev pub SeatsKnowBeginnings : Type 0
SeatsKnowBeginnings =
    (table : Shelved) (i : ℕ) (u : View) (r : KeepsRule table) → get_elem? table.views i ≡ some u → Grows (known_of u) (known_in_full r.history)

-- so a version that two seats know to be published, such as a worker's and the loader's, has the same image for both
abbrev pub SeatsAgreeOnImages : Type 0
SeatsAgreeOnImages =
    (table : Shelved) (i j : ℕ) (u w : View) (version : ℕ) (image other : ImageValue) → KeepsRule table
    → get_elem? table.views i ≡ some u → get_elem? table.views j ≡ some w
    → IsPublished (known_of u) version image → IsPublished (known_of w) version other → other ≡ image
