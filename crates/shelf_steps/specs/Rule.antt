-- The rule of the shelves.
use Rattle.image_layout.specs.Image.{ImageValue}
use Rattle.std.specs.Prelude.{◌≡◌, ℕ, ◌<◌, ◌≤◌, length, List, [], ◌∷◌, ◌++◌, Option, None, replicate}
use mathlib.Core.Option.{some}
use lib.ListN.{get_elem?}
use Rattle.atomic_table.specs.Table.{State as Table}
use Rattle.version_core.specs.declared.state.Shelf.{Shelf}
use Rattle.shelf_steps.specs.declared.edition.Edition.{Edition}
use Rattle.shelf_steps.specs.declared.views.LoaderView.{LoaderView}
use Rattle.shelf_steps.specs.declared.views.View.{View}
use Rattle.shelf_steps.specs.EventHistory.{EventHistory, LeadsToItsState}
use Rattle.version_core.specs.Shown.{WordsShow}
use Rattle.shelf_steps.specs.Seats.{SeatsFit}
use Rattle.shelf_steps.specs.Slots.{SlotsFit}
use Rattle.shelf_steps.specs.Plays.{IsFilledWith}

-- the versions of the views that are notices, in the order of their seats
abbrev pub notice_of : View → List ℕ
notice_of (View.Noting v) = v ∷ []
notice_of _ = []

abbrev pub notices_of : List View → List ℕ
notices_of [] = []
notices_of (u ∷ us) = notice_of u ++ notices_of us

-- there is one history of events, which the words show, the views know, and the slots follow
pub record KeepsRule (table : Table (Option Edition) View) : Type 0 where
  pub history : EventHistory
  pub loader : LoaderView
  pub goes : LeadsToItsState history
  pub words : WordsShow table.words history.state
  pub seats : SeatsFit history table.views loader
  pub notices : notices_of table.views ≡ history.state.notices
  pub slots : SlotsFit table.homes history.state.shelves history.state.workers history.images loader.hand

-- what the loader knows at the start: version 1 with the first image, on shelf 0, and seven free shelves
abbrev pub first_loader_view : ImageValue → LoaderView
first_loader_view image =
    record {
      handed = 0;
      notes = 0;
      current = 1;
      current_shelf = 0;
      shelves = Shelf.Open 1 ∷ replicate 7 Shelf.Free;
      hand = None;
      known = record { events = []; replies = []; images = image ∷ [] };
    }

-- the words at the start: version 1 is current and stands open on shelf 0
abbrev pub first_words : List ℕ
first_words = 8 ∷ 65792 ∷ 0 ∷ 0 ∷ 0 ∷ 0 ∷ 0 ∷ 0 ∷ 0 ∷ []

-- the slots of shelf 0 have the first image as version 1, and the others are empty
abbrev pub FirstSlot : ImageValue → ℕ → Option Edition → Type 0
FirstSlot image j x = (j < 16 → IsFilledWith 1 image x) × (16 ≤ j → x ≡ None)

-- n slots, each as it is at the start
abbrev pub FirstSlots : ImageValue → ℕ → List (Option Edition) → Type 0
FirstSlots image n items = (length items ≡ n) × ((j : ℕ) → j < n → (x : Option Edition) × (get_elem? items j ≡ some x) × FirstSlot image j x)
