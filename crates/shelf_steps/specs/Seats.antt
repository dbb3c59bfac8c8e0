-- When what the seats know fits what happened.
use Rattle.image_layout.specs.Image.{ImageValue}
use Rattle.std.specs.Prelude.{◌≡◌, ℕ, ◌<◌, ◌≤◌, true, List, Option, Some, None, length, slice_get, slice_index}
use Rattle.version_core.specs.Shown.{WorkerShows, LoaderShows}
use mathlib.Core.Option.{some}
use lib.ListN.{get_elem?}
use Rattle.version_core.specs.declared.state.Worker.{Worker}
use Rattle.shelf_steps.specs.declared.edition.Edition.{Edition}
use Rattle.shelf_steps.specs.declared.views.WorkerView.{WorkerView}
use Rattle.shelf_steps.specs.declared.views.LoaderView.{LoaderView}
use Rattle.shelf_steps.specs.declared.views.View.{View}
use Rattle.shelf_steps.specs.EventHistory.{EventHistory, IsKnownBeginning, IsEdition, notes_in, joined_by, HasDoneNothing}

-- a worker that holds a version has its edition, and no other worker has one
abbrev pub HasEdition : List ImageValue → Worker → Option Edition → Type 0
HasEdition images (Worker.Holding k v) edition = IsEdition images v edition
HasEdition images _ edition = edition ≡ None

-- what a worker's seat knows fits: what the worker is doing and has seen, its edition, a beginning of the events after which the worker has made no
-- step on a word, and the notices that it took in
pub record WorkerFits (c : EventHistory) (v : WorkerView) : Type 0 where
  pub shows : WorkerShows v.number v.now v.seen c.state
  pub last : (v.last ≤ c.state.current) × (v.last ≤ v.seen)
  pub passed : v.passed ≡ true → v.last < c.state.current
  pub edition : HasEdition c.images v.now v.edition
  pub known : IsKnownBeginning v.known (Some v.number) c
  pub joined : v.joined ≡ joined_by v.number c.events

-- what the loader's seat knows fits: the state, all images, a beginning of the events, and how many notices went out
pub record LoaderFits (c : EventHistory) (l : LoaderView) : Type 0 where
  pub shows : LoaderShows l.current l.current_shelf l.shelves (length l.known.images) c.state
  pub images : l.known.images ≡ c.images
  pub known : IsKnownBeginning l.known None c
  pub notes : l.notes ≡ notes_in c.events

-- the owner of a number is the seat of that worker, so that no number has two seats
abbrev pub SeatFits : EventHistory → LoaderView → (ℕ → ℕ) → ℕ → View → Type 0
SeatFits c loader owner seat (View.Loading l) = (seat ≡ 0) × (l ≡ loader)
SeatFits c loader owner seat (View.Working v) = (v.number < loader.handed) × (owner v.number ≡ seat) × WorkerFits c v
SeatFits c loader owner seat _ = Unit {0}

-- all seats fit. Seat 0 is the loader's; each worker whose seat was handed out has one seat, and no other worker has done anything
pub record SeatsFit (c : EventHistory) (views : List View) (loader : LoaderView) : Type 0 where
  pub owner : ℕ → ℕ
  pub loader_seat : get_elem? views 0 ≡ some (View.Loading loader)
  pub loads : LoaderFits c loader
  pub few : loader.handed ≤ 16
  pub each : (seat : ℕ) (u : View) → get_elem? views seat ≡ some u → SeatFits c loader owner seat u
  pub every : (w : ℕ) → w < loader.handed → (v : WorkerView) × (v.number ≡ w) × (get_elem? views (owner w) ≡ some (View.Working v))
  pub unseated : (w : ℕ) → loader.handed ≤ w → w < 16
      → (slice_get c.state.workers w ≡ Some Worker.Idle) × (slice_index c.state.seen w ≡ 0) × HasDoneNothing w c.events
