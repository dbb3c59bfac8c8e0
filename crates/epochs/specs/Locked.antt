-- What a call under a lock does. Contracts can't see what a lock holds, so a call says that some table was there, and what it made of that table.
use Rattle.std.specs.Prelude.{◌≡◌, ℕ, Result, Ok, Err, [], ◌∷◌}
use Rattle.version_core.specs.State.{start}
use Rattle.image_layout.specs.Image.{ImageValue}
use Rattle.shelves.specs.declared.faults.PinFault.{PinFault}
use Rattle.shelves.specs.declared.faults.PublishFault.{PublishFault}
use Rattle.epochs.specs.WorkerSeats.{WorkerSeatValue}
use Rattle.epochs.specs.History.{TableValue, IsHistory}
use Rattle.epochs.specs.Pins.{HoldsAt, PinsCurrent, RefusesPin, ReleasesHeld, RefusesRelease}
use Rattle.epochs.specs.Publishing.{MakesRoom, PublishesNext, RefusesPublish}

-- the table's events lead to its state
abbrev pub HasHistory : TableValue → Type 0
HasHistory table = IsHistory table.state table.events table.images

-- the step leads from some table to another, and the events of each lead to its state
pub record UnderLock (step : TableValue → TableValue → Type 0) : Type 0 where
  pub before : TableValue
  pub after : TableValue
  pub history_before : HasHistory before
  pub history_after : HasHistory after
  pub is_step : step before after

-- a pin with this result, from a table and a seat to the table and the seat after it; if it succeeds, the worker holds what the seat holds
abbrev pub PinsAt : TableValue → WorkerSeatValue → Result (Unit {0}) PinFault → TableValue → WorkerSeatValue → Type 0
PinsAt a seat (Ok u) b after = PinsCurrent a seat b after × HoldsAt b after.number after.shown.held
PinsAt a seat (Err fault) b after = RefusesPin a.state seat fault × (b ≡ a) × (after.worker ≡ seat.worker)

-- a release with this result, from a table and a seat to the table and the seat after it
abbrev pub ReleasesAt : TableValue → WorkerSeatValue → Result (Unit {0}) PinFault → TableValue → WorkerSeatValue → Type 0
ReleasesAt a seat (Ok u) b after = ReleasesHeld a seat b after
ReleasesAt a seat (Err fault) b after = RefusesRelease a.state seat fault × (b ≡ a)

-- the image becomes this version, once there is room; or the publish is refused
abbrev pub PublishesAt : TableValue → ImageValue → Result ℕ PublishFault → TableValue → Type 0
PublishesAt a image (Ok version) b = (room : TableValue) × MakesRoom a room × PublishesNext room image version b
PublishesAt a image (Err fault) b = RefusesPublish a fault b

-- nothing has happened at the table, and this is its one image
abbrev pub IsNew : ImageValue → TableValue → Type 0
IsNew image table = table ≡ record { state = start; events = []; images = image ∷ [] }
