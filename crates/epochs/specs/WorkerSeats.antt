-- What a seat at a table under a lock shows.
use Rattle.std.specs.Prelude.{◌≡◌, ◌≢◌, ℕ, zero, suc, List, [], ◌∷◌, ◌++◌, Option, Some, None}
use Rattle.std.specs.Arc.{arc_value}
use Rattle.image_layout.specs.Image.{ImageValue}
use Rattle.version_core.specs.declared.state.Worker.{Worker}
use Rattle.shelves.specs.Seats.{SeatValue}
use Rattle.epochs.specs.declared.seats.Pin.{Pin}

-- a worker's seat at a table under a lock: the worker's number, what the seat says that the worker is doing, and what the seat shows
pub record WorkerSeatValue : Type 0 where
  pub number : ℕ
  pub worker : Worker
  pub shown : SeatValue

abbrev pub worker_of : Option Pin → Worker
worker_of None = Worker.Idle
worker_of (Some pin) = Worker.Holding pin.shelf pin.edition.version

abbrev pub held_of : Option Pin → Option (ℕ × ImageValue)
held_of None = None
held_of (Some pin) = Some (pin.edition.version, arc_value pin.edition.image)

-- the seat holds a version, and says that its worker holds one
abbrev pub IsHolding : WorkerSeatValue → Type 0
IsHolding seat = (seat.shown.held ≢ None) × ((k v : ℕ) × (seat.worker ≡ Worker.Holding k v))

abbrev pub IsEmpty : WorkerSeatValue → Type 0
IsEmpty seat = (seat.shown.held ≡ None) × (seat.worker ≡ Worker.Idle)

-- a new seat
abbrev pub idle_seat : ℕ → WorkerSeatValue
idle_seat number = record { number = number; worker = Worker.Idle; shown = record { answers = []; held = None; seen = 0 } }

-- the seats of idle workers, one for each of the first numbers
abbrev pub idle_seats : ℕ → List WorkerSeatValue
idle_seats zero = []
idle_seats (suc n) = idle_seats n ++ idle_seat n ∷ []
