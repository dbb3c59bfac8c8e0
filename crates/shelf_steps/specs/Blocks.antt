-- Editions in the slots of a shelf.
use Rattle.image_layout.specs.Image.{ImageValue}
use Rattle.std.specs.Prelude.{◌≡◌, ℕ, ◌-◌, ◌<◌, List, length, slice_get, Option, Some}
use Rattle.std.specs.Arc.{arc_value}
use Rattle.shelf_steps.specs.declared.edition.Edition.{Edition}

-- the contents of slots: the editions side by side, from the slot `first` on
abbrev pub laid : List Edition → ℕ → ℕ → Option Edition
laid items first j = slice_get items (j - first)

-- n editions of the version, each with the image
abbrev pub EachHas : ℕ → ImageValue → ℕ → List Edition → Type 0
EachHas version image n items = (length items ≡ n)
    × ((j : ℕ) → j < n → (e : Edition) × (slice_get items j ≡ Some e) × (e.version ≡ version)
    × (arc_value e.image ≡ image))
