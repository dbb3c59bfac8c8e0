-- What a seat remembers about itself, so that its steps may be asked for at any time.
use Rattle.std.specs.Prelude.{◌≡◌, ℕ, ◌+◌, ◌*◌, ◌<◌, ◌≤◌, List, [], ◌∷◌, length, Option, Some, None}
use Rattle.version_core.specs.declared.state.Shelf.{Shelf}
use Rattle.version_core.specs.declared.state.Worker.{Worker}
use Rattle.version_core.specs.Invariants.{version_on}
use Rattle.version_core.specs.State.{most_versions}
use Rattle.shelf_steps.specs.declared.edition.Edition.{Edition}
use Rattle.shelf_steps.specs.declared.views.WorkerView.{WorkerView}
use Rattle.shelf_steps.specs.declared.views.LoaderView.{LoaderView}
use Rattle.shelf_steps.specs.Plays.{SeatAndSlots, OfWorker, OfLoader, newest_of}

-- the slots that are out with a worker: none, or if it holds a shelf its own slot there, with the edition in it
abbrev pub CarriesSo : Worker → WorkerView → List (ℕ × Option Edition) → Type 0
CarriesSo Worker.Idle v c = c ≡ []
CarriesSo (Worker.Looked version k) v c = (k < 8) × (c ≡ [])
CarriesSo (Worker.Late k) v c = (k < 8) × (c ≡ [])
CarriesSo (Worker.Holding k version) v c = (k < 8) × (c ≡ (16 * k + v.number, v.edition) ∷ [])

abbrev pub DoesSo : Worker → SeatAndSlots → Type 0
DoesSo now m = OfWorker m.0 (λ v. (v.now ≡ now) × CarriesSo now v m.1)

-- what the loader remembers between two steps, with nothing in its hand, is what its view knows: the current version, the newest version and the shelves
pub record RemembersBy (current newest : ℕ) (shelves : List Shelf) (hand : Option ℕ) (now top : ℕ) (standing : List Shelf) : Type 0 where
  pub empty : hand ≡ None
  pub current_is : now ≡ current
  pub newest_is : top ≡ newest
  pub shelves_are : standing ≡ shelves
  pub eight : length shelves ≡ 8
  pub small : newest ≤ most_versions
  pub known : (k v : ℕ) → version_on shelves k ≡ Some v → v ≤ newest

abbrev pub Remembers : ℕ → ℕ → List Shelf → LoaderView → Type 0
Remembers current newest shelves l = RemembersBy current newest shelves l.hand l.current (newest_of l) l.shelves

abbrev pub RemembersSo : ℕ → ℕ → List Shelf → SeatAndSlots → Type 0
RemembersSo current newest shelves m = OfLoader m.0 (λ l. Remembers current newest shelves l) × (m.1 ≡ [])
