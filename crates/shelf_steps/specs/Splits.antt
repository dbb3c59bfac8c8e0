-- What a split of the loader's seat leaves and gives.
use Rattle.std.specs.Prelude.{◌≡◌, []}
use Rattle.shelf_steps.specs.declared.views.View.{View}
use Rattle.shelf_steps.specs.Plays.{TableSeatValue}

-- the seat stays at its table with its slots, and its view is `left` of what it was; the part that is split off is at the same table, with the view
-- `right` and no slot out
abbrev pub IsSplit : (View → View) → (View → View) → TableSeatValue → TableSeatValue → TableSeatValue → Type 0
IsSplit left right old new part =
    (new.table ≡ old.table) × (new.me ≡ (left old.me.0, old.me.1)) × (part.table ≡ old.table) × (part.me ≡ (right old.me.0, []))
