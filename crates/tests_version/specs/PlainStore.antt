-- It would be wrong to open a shelf by a store, which would overwrite the count in its word.
use Rattle.std.specs.Prelude.{◌≡◌, ℕ, ◌+◌, ◌*◌, true, Some, slice_get, slice_index}
use mathlib.Core.Option.{some}
use lib.ListN.{get_elem?}
use Rattle.version_core.specs.declared.state.Shelf.{Shelf}
use Rattle.version_core.specs.Invariants.{is_at}
use Rattle.shelf_steps.specs.declared.views.WorkerView.{WorkerView}
use Rattle.shelf_steps.specs.declared.views.LoaderView.{LoaderView}
use Rattle.shelf_steps.specs.declared.views.View.{View}
use Rattle.shelf_steps.specs.Rule.{KeepsRule}
use Rattle.shelf_steps.specs.Laws.{Shelved, IsLoader}

-- if a worker is at the shelf that the loader has opened with the version, as one that came late is, and the word is what a store of this version as open would
-- leave, then the rule doesn't hold
abbrev pub NoStoreOpens : Type 0
NoStoreOpens =
    (table : Shelved) (l : LoaderView) (i k version : ℕ) (v : WorkerView)
    → IsLoader table l → slice_get l.shelves k ≡ Some (Shelf.Open version)
    → get_elem? table.views i ≡ some (View.Working v) → is_at k v.now ≡ true
    → slice_index table.words (k + 1) ≡ 256 + 65536 * version
    → KeepsRule table → ⊥
