-- Seats at one table. A seat that was handed out with the table, and is used only there, always fits, and holds what was published.
use Rattle.std.specs.Prelude.{◌≡◌, ◌≢◌, ℕ, ◌<◌, ◌⊎◌, List, Some}
use Rattle.image_layout.specs.Image.{ImageValue}
use Rattle.version_core.specs.State.{start}
use Rattle.shelves.specs.declared.collected.Collected.{Collected}
use Rattle.epochs.specs.WorkerSeats.{WorkerSeatValue, idle_seat}
use Rattle.epochs.specs.History.{TableValue, image_of}
use Rattle.epochs.specs.Pins.{SeatAgrees, PinsCurrent, ReleasesHeld}
use Rattle.epochs.specs.Publishing.{PublishesNext, TriesClosing}

-- a new seat fits a new table
abbrev pub NewSeatsFit : Type 0
NewSeatsFit = (number : ℕ) → number < 16 → SeatAgrees start (idle_seat number)

-- the other seats still fit after what one seat does
abbrev pub PinsLeaveOthers : Type 0
PinsLeaveOthers = (a b : TableValue) (seat after other : WorkerSeatValue) → PinsCurrent a seat b after
    → other.number ≢ seat.number → SeatAgrees a.state other → SeatAgrees b.state other

abbrev pub ReleasesLeaveOthers : Type 0
ReleasesLeaveOthers = (a b : TableValue) (seat after other : WorkerSeatValue) → ReleasesHeld a seat b after
    → other.number ≢ seat.number → SeatAgrees a.state other → SeatAgrees b.state other

-- all seats still fit after what the loader does
abbrev pub PublishesLeaveSeats : Type 0
PublishesLeaveSeats = (a b : TableValue) (seat : WorkerSeatValue) (image : ImageValue) (version : ℕ)
    → PublishesNext a image version b → SeatAgrees a.state seat → SeatAgrees b.state seat

abbrev pub CollectsLeaveSeats : Type 0
CollectsLeaveSeats = (a b : TableValue) (seat : WorkerSeatValue) (found : Collected) → TriesClosing a found b → SeatAgrees a.state seat
    → SeatAgrees b.state seat

-- what the seat holds is the image that was published as that version
abbrev pub HoldsPublished : List ImageValue → WorkerSeatValue → Type 0
HoldsPublished images seat = (version : ℕ) (image : ImageValue) → seat.shown.held ≡ Some (version, image) → image_of images version ≡ Some image

-- after a pin, the seat holds what was published; and it still does after any call at the table (CallsKeepPublished)
abbrev pub PinsHoldPublished : Type 0
PinsHoldPublished = (a b : TableValue) (seat after : WorkerSeatValue) → PinsCurrent a seat b after → HoldsPublished b.images after

-- what is done at a table: a pin, a release, a publish or a collection
abbrev pub TableCall : TableValue → TableValue → Type 0
TableCall a b =
    ((seat after : WorkerSeatValue) × PinsCurrent a seat b after)
    ⊎ (((seat after : WorkerSeatValue) × ReleasesHeld a seat b after)
    ⊎ (((image : ImageValue) × (version : ℕ) × PublishesNext a image version b) ⊎ ((found : Collected) × TriesClosing a found b)))

abbrev pub CallsKeepPublished : Type 0
CallsKeepPublished = (a b : TableValue) (seat : WorkerSeatValue) → TableCall a b → HoldsPublished a.images seat → HoldsPublished b.images seat
