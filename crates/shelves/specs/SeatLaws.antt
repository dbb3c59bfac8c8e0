-- A notice that a seat takes in, and the seat's later pins.
use Rattle.std.specs.Prelude.{◌≡◌, ◌≢◌, ℕ, zero, suc, ◌<◌, ◌≤◌, ◌⊎◌, Some, None, Result, Ok, Err}
use Rattle.std.specs.Arc.{arc_value}
use Rattle.image_layout.specs.Image.{ImageValue}
use Rattle.shelf_steps.specs.declared.edition.Edition.{Edition}
use Rattle.shelf_steps.specs.Pinning.{Pins}
use Rattle.shelves.specs.declared.faults.PinFault.{PinFault}
use Rattle.shelves.specs.Seats.{SeatValue, ShowsPin, ShowsRelease, ShowsJoin}
use Rattle.shelves.specs.ShelfSeats.{ShelfSeatValue, PinsBySteps, ReleasesBySteps, JoinsByStep}

-- what a seat may do: pin, release, or take in a notice
abbrev pub SeatStep : SeatValue → SeatValue → Type 0
SeatStep a b = ((r : Result (Unit {0}) PinFault) × ShowsPin a r b) ⊎ (((r : Result (Unit {0}) PinFault) × ShowsRelease a r b) ⊎ ((version : ℕ)
    × ShowsJoin a version b))

-- n of these, one after another
abbrev pub SeatSteps : ℕ → SeatValue → SeatValue → Type 0
SeatSteps zero a b = b ≡ a
SeatSteps (suc n) a b = (mid : SeatValue) × SeatStep a mid × SeatSteps n mid b

-- a pin gave this version or a newer one; or it moved, with a newer one; or it was refused with another fault
abbrev pub GivesFrom : ℕ → Result (Unit {0}) PinFault → SeatValue → Type 0
GivesFrom v (Ok u) b = (version : ℕ) × (image : ImageValue) × (b.held ≡ Some (version, image)) × (v ≤ version)
GivesFrom v (Err (PinFault.Moved newest)) b = v < newest
GivesFrom v (Err _) b = Unit {0}

-- once a seat has taken in a notice of v, GivesFrom v holds of each of its pins, whatever the seat did between
abbrev pub JoinedVersionsStay : Type 0
JoinedVersionsStay =
    (a b c d : SeatValue) (v n : ℕ) (r : Result (Unit {0}) PinFault) → ShowsJoin a v b → SeatSteps n b c → ShowsPin c r d → GivesFrom v r d

-- the calls of a seat at shelves without a lock, each by its contract
abbrev pub PinsSo : ShelfSeatValue → Result (Unit {0}) PinFault → ShelfSeatValue → Type 0
PinsSo a r b = ShowsPin a.shown r b.shown × PinsBySteps a r b

abbrev pub ReleasesSo : ShelfSeatValue → Result (Unit {0}) PinFault → ShelfSeatValue → Type 0
ReleasesSo a r b = ShowsRelease a.shown r b.shown × ReleasesBySteps a r b

abbrev pub JoinsSo : ShelfSeatValue → ℕ → ShelfSeatValue → Type 0
JoinsSo a version b = ShowsJoin a.shown version b.shown × JoinsByStep a version b

abbrev pub SeatCall : ShelfSeatValue → ShelfSeatValue → Type 0
SeatCall a b =
    ((r : Result (Unit {0}) PinFault) × PinsSo a r b)
    ⊎ (((r : Result (Unit {0}) PinFault) × ReleasesSo a r b) ⊎ ((version : ℕ) × JoinsSo a version b))

abbrev pub SeatCalls : ℕ → ShelfSeatValue → ShelfSeatValue → Type 0
SeatCalls zero a b = b ≡ a
SeatCalls (suc n) a b = (mid : ShelfSeatValue) × SeatCall a mid × SeatCalls n mid b

-- the pin's last look found the version that is held, and it is this one or a newer one; or the pin moved, with a newer one; or the seat held a
-- version already. There is no other fault
abbrev pub AnswersFrom : ℕ → ShelfSeatValue → Result (Unit {0}) PinFault → ShelfSeatValue → Type 0
AnswersFrom v a (Ok u) b =
    (shelf : ℕ) × (e : Edition) × Pins a.view e.version shelf e b.view × (b.shown.held ≡ Some (e.version, arc_value e.image)) × (v ≤ e.version)
AnswersFrom v a (Err (PinFault.Moved newest)) b = v < newest
AnswersFrom v a (Err PinFault.AlreadyPinned) b = a.shown.held ≢ None
AnswersFrom v a (Err _) b = ⊥

-- once a seat at shelves without a lock has taken in a notice of v, AnswersFrom v holds of each of its pins, whatever the seat did between
abbrev pub JoinedVersionsStayAtShelves : Type 0
JoinedVersionsStayAtShelves =
    (a b c d : ShelfSeatValue) (v n : ℕ) (r : Result (Unit {0}) PinFault) → JoinsSo a v b → SeatCalls n b c → PinsSo c r d → AnswersFrom v c r d
