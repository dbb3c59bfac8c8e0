-- What the calls of a worker's seat do at shelves without a lock.
use Rattle.std.specs.Prelude.{◌≡◌, ◌≢◌, ℕ, ◌<◌, List, [], ◌∷◌, map, length, slice_get, Option, Some, None, MatchOption, Result, Ok, Err}
use Rattle.std.specs.Arc.{arc_value}
use Rattle.atomic_table.specs.Seated.{TableId}
use Rattle.image_layout.specs.Image.{ImageValue}
use Rattle.shelf_steps.specs.declared.edition.Edition.{Edition}
use Rattle.shelf_steps.specs.declared.views.View.{View}
use Rattle.version_core.specs.declared.state.Worker.{Worker}
use Rattle.shelf_steps.specs.declared.views.WorkerView.{WorkerView}
use Rattle.shelf_steps.specs.Plays.{SeatAndSlots, OfWorker, newcomer, joins_notice}
use Rattle.shelf_steps.specs.Slots.{slot_at}
use Rattle.shelf_steps.specs.Pinning.{Pins, Moves, Releases, IsIdleAs, IsHoldingAs}
use Rattle.shelves.specs.declared.faults.PinFault.{PinFault}
use Rattle.shelves.specs.Seats.{SeatValue, ShowsPin, ShowsRelease, ShowsJoin}
use Rattle.shelves.specs.SeatHistory.{HoldsIn, HoldsAsKnown, EndsPin, EndsRelease}
use Rattle.shelves.specs.Words.{SeatWords, StillFits}
use Rattle.shelf_steps.specs.Events.{known_of}

-- the shelves that the seat is at, the number of its worker, what it knows, the slots that are out with it, and what it shows
pub record ShelfSeatValue : Type 0 where
  pub table : TableId
  pub number : ℕ
  pub view : View
  pub slots : List ℕ
  pub shown : SeatValue

-- the numbers of the slots that are out with a seat
abbrev pub slots_of : SeatAndSlots → List ℕ
slots_of m = map (λ (s : ℕ × Option Edition). s.0) m.1

-- the greatest version that a worker has seen
abbrev pub seen_of : View → ℕ
seen_of (View.Working v) = v.seen
seen_of _ = 0

abbrev pub held_at : Option (ℕ × Edition) → Option (ℕ × ImageValue)
held_at None = None
held_at (Some h) = Some (h.1.version, arc_value h.1.image)

-- an idle worker's seat; or one that holds the shelf with the edition in hand, whose image the history published as its version
abbrev pub FitsSeat : ℕ → Option (ℕ × Edition) → SeatAndSlots → Type 0
FitsSeat number None m = IsIdleAs number m
FitsSeat number (Some h) m = (h.0 < 8) × IsHoldingAs number h.0 h.1 m × HoldsIn (known_of m.0) number h.1.version (arc_value h.1.image)

-- by what the seat knows, its worker holds this version with this image on a shelf, and the worker's slot of that shelf is out with the seat, and no
-- other slot
pub record HoldsByView (a : ShelfSeatValue) (version : ℕ) (image : ImageValue) : Type 0 where
  pub shelf : ℕ
  pub small : shelf < 8
  pub worker : WorkerView
  pub is_worker : a.view ≡ View.Working worker
  pub number : worker.number ≡ a.number
  pub now : worker.now ≡ Worker.Holding shelf version
  pub edition : (e : Edition) × (worker.edition ≡ Some e) × (e.version ≡ version) × (arc_value e.image ≡ image)
  pub slot : a.slots ≡ slot_at shelf a.number ∷ []

-- the seat shows what it knows: its worker holds what the seat shows as held; if that is nothing, the worker is idle, and no slot is out with the
-- seat
abbrev pub ShowsWhatItKnows : ShelfSeatValue → Type 0
ShowsWhatItKnows a = MatchOption a.shown.held (OfWorker a.view (λ v. v.now ≡ Worker.Idle) × (a.slots ≡ [])) (λ h. HoldsByView a h.0 h.1)

-- one to four looks, each of which found a greater version than the one before, and the last the version that is held; or four such looks, each
-- followed by a take that came late and a drop; or nothing, if the seat held a version already. There is no other fault
abbrev pub PinsBySteps : ShelfSeatValue → Result (Unit {0}) PinFault → ShelfSeatValue → Type 0
PinsBySteps a (Ok u) b = (a.shown.held ≡ None)
    × ((shelf : ℕ) × (e : Edition) × Pins a.view e.version shelf e b.view
    × (b.shown.held ≡ Some (e.version, arc_value e.image)))
PinsBySteps a (Err (PinFault.Moved newest)) b = (a.shown.held ≡ None) × Moves a.view newest b.view × (b.shown.held ≡ None)
PinsBySteps a (Err PinFault.AlreadyPinned) b = (a.shown.held ≢ None) × (b.view ≡ a.view) × (b.shown.held ≡ a.shown.held)
PinsBySteps a (Err _) b = ⊥

-- one drop; or nothing, if the seat held no version. There is no other fault
abbrev pub ReleasesBySteps : ShelfSeatValue → Result (Unit {0}) PinFault → ShelfSeatValue → Type 0
ReleasesBySteps a (Ok u) b = (a.shown.held ≢ None) × Releases a.view b.view × (b.shown.held ≡ None)
ReleasesBySteps a (Err PinFault.NotPinned) b = (a.shown.held ≡ None) × (b.view ≡ a.view) × (b.shown.held ≡ None)
ReleasesBySteps a (Err _) b = ⊥

-- the shelves that a notice is of, and its version
pub record NoticeValue : Type 0 where
  pub table : TableId
  pub version : ℕ

-- one join, after which the seat holds what it held before
abbrev pub JoinsByStep : ShelfSeatValue → ℕ → ShelfSeatValue → Type 0
JoinsByStep a version b = (b.view ≡ joins_notice a.view (View.Noting version)) × (b.shown.held ≡ a.shown.held)

-- the seat of a worker that has done nothing
abbrev pub new_seat : TableId → ℕ → ShelfSeatValue
new_seat table number = record {
  table = table;
  number = number;
  view = View.Working (newcomer number);
  slots = [];
  shown = record { answers = []; held = None; seen = 0 };
}

-- n seats of the table, numbered from 0
abbrev pub SeatsHanded : TableId → ℕ → List ShelfSeatValue → Type 0
SeatsHanded table n seats = (length seats ≡ n) × ((j : ℕ) → j < n → slice_get seats j ≡ Some (new_seat table j))

-- what contracts say of these seats and notices
abbrev pub shelf_seats : SeatWords TableId ShelfSeatValue NoticeValue
shelf_seats = record {
  fits = λ shelves seat. seat.table ≡ shelves;
  number = λ seat. seat.number;
  shown = λ seat. seat.shown;
  known = λ seat. known_of seat.view;
  version = λ notice. notice.version;
}

-- a pin with this result. What is held after it was published, in what the seat knows
pub record PinsSeat (a : ShelfSeatValue) (result : Result (Unit {0}) PinFault) (b : ShelfSeatValue) : Type 0 where
  pub still : StillFits shelf_seats a.table a b
  pub pin : ShowsPin a.shown result b.shown
  pub steps : PinsBySteps a result b
  pub known : HoldsAsKnown (known_of b.view) b.number b.shown.held
  pub ends : EndsPin (known_of a.view) a.number result b.shown.held (known_of b.view)

-- a release with this result
pub record ReleasesSeat (a : ShelfSeatValue) (result : Result (Unit {0}) PinFault) (b : ShelfSeatValue) : Type 0 where
  pub still : StillFits shelf_seats a.table a b
  pub release : ShowsRelease a.shown result b.shown
  pub steps : ReleasesBySteps a result b
  pub ends : EndsRelease (known_of a.view) a.number result (known_of b.view)

-- a notice of this version is taken in. The seat learns nothing of the history by it
pub record JoinsSeat (a : ShelfSeatValue) (version : ℕ) (b : ShelfSeatValue) : Type 0 where
  pub still : StillFits shelf_seats a.table a b
  pub join : ShowsJoin a.shown version b.shown
  pub step : JoinsByStep a version b
  pub same : known_of b.view ≡ known_of a.view
