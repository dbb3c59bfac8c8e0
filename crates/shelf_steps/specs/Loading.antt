-- What a load and a try at a closing shelf do to the loader's view, by the events that happen.
use Rattle.image_layout.specs.Image.{ImageValue}
use Rattle.std.specs.Prelude.{◌≡◌, ℕ, ◌+◌, ◌<◌, [], ◌∷◌, ◌++◌, slice_get, slice_set, Some, None}
use Rattle.version_core.specs.declared.event.Event.{Event}
use Rattle.version_core.specs.declared.event.Reply.{Reply}
use Rattle.version_core.specs.declared.state.Shelf.{Shelf}
use Rattle.shelf_steps.specs.declared.views.KnownHistory.{KnownHistory}
use Rattle.shelf_steps.specs.declared.views.LoaderView.{LoaderView}
use Rattle.shelf_steps.specs.declared.views.View.{View}
use Rattle.shelf_steps.specs.EventHistory.{Happened}
use Rattle.shelf_steps.specs.Plays.{OfLoader, newest_of}

-- the loader is at rest, `shelf` is free, `version` is the next one, and `former` is the shelf of the current version
pub record MayLoad (shelf version former : ℕ) (l : LoaderView) : Type 0 where
  pub free : slice_get l.shelves shelf ≡ Some Shelf.Free
  pub empty : l.hand ≡ None
  pub current : l.current ≡ newest_of l
  pub next : version ≡ newest_of l + 1
  pub former_is : former ≡ l.current_shelf
  pub former_open : slice_get l.shelves former ≡ Some (Shelf.Open l.current)

-- the slots were gathered, the shelf opened with the image, its version made current, and the former shelf closed
pub record LoadsShelf (a : LoaderView) (image : ImageValue) (version shelf : ℕ) (b : LoaderView) : Type 0 where
  pub former : ℕ
  pub former_is : former ≡ a.current_shelf
  pub gathered : KnownHistory
  pub opened : KnownHistory
  pub published : KnownHistory
  pub gather : Happened a.known (Event.Collect shelf) Reply.NotNow gathered
  pub opening : Happened gathered (Event.Open (newest_of a)) (Reply.Opened version shelf) opened
  pub publish : Happened opened Event.Publish (Reply.Published version) published
  pub close : Happened published (Event.Close former) Reply.Closing b.known
  pub images : b.known.images ≡ a.known.images ++ image ∷ []
  pub current : (b.current ≡ version) × (b.current_shelf ≡ shelf)
  pub shelves : b.shelves ≡ slice_set (slice_set a.shelves shelf (Shelf.Open version)) former (Shelf.Closing a.current)
  pub handed : b.handed ≡ a.handed
  pub notes : b.notes ≡ a.notes
  pub hand : b.hand ≡ None

abbrev pub Loads : ℕ → ℕ → ImageValue → View → View → Type 0
Loads shelf version image u u' = OfLoader u (λ a. OfLoader u' (λ b. LoadsShelf a image version shelf b))

-- the closing shelf is free, with its slots at home and empty (Freed), or its count was above 0 (FoundBusy)
pub record FreesShelf (a : LoaderView) (shelf : ℕ) (b : LoaderView) : Type 0 where
  pub freed : KnownHistory
  pub collect : Happened a.known (Event.Collect shelf) Reply.Freed freed
  pub put_back : Happened freed (Event.Collect shelf) Reply.NotNow b.known
  pub images : b.known.images ≡ a.known.images
  pub current : (b.current ≡ a.current) × (b.current_shelf ≡ a.current_shelf)
  pub shelves : b.shelves ≡ slice_set a.shelves shelf Shelf.Free
  pub handed : b.handed ≡ a.handed
  pub notes : b.notes ≡ a.notes
  pub hand : b.hand ≡ None

pub record FindsShelfBusy (a : LoaderView) (shelf count : ℕ) (b : LoaderView) : Type 0 where
  pub collect : Happened a.known (Event.Collect shelf) (Reply.Busy count) b.known
  pub some_one : 0 < count
  pub images : b.known.images ≡ a.known.images
  pub current : (b.current ≡ a.current) × (b.current_shelf ≡ a.current_shelf)
  pub shelves : b.shelves ≡ a.shelves
  pub handed : b.handed ≡ a.handed
  pub notes : b.notes ≡ a.notes
  pub hand : b.hand ≡ None

abbrev pub Frees : ℕ → View → View → Type 0
Frees shelf u u' = OfLoader u (λ a. OfLoader u' (λ b. FreesShelf a shelf b))

abbrev pub FindsBusy : ℕ → ℕ → View → View → Type 0
FindsBusy shelf count u u' = OfLoader u (λ a. OfLoader u' (λ b. FindsShelfBusy a shelf count b))
