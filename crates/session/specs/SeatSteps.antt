-- What is done at a seat, and what it makes of the seat.
use Rattle.std.specs.Prelude.{◌≡◌, ◌≤◌, ℕ, max, List, [], ◌∷◌, Option, Some, None, Ok, Err}
use Rattle.std.specs.declared.snapshot.Snapshot.{Snapshot}
use Rattle.image_layout.specs.Image.{ImageValue}
use Rattle.shelf_steps.specs.declared.views.KnownHistory.{KnownHistory}
use Rattle.shelves.specs.declared.answers.SeatAnswer.{SeatAnswer}
use Rattle.shelves.specs.SeatHistory.{HoldsAsKnown}
use Rattle.session.specs.Replies.{ReplyValue}
use Rattle.shelves.specs.Seats.{SeatValue, KnowsItsSeats, ShowsPin, ShowsRelease, ShowsJoin, pinned}

-- a call is answered, or a notice of this version is joined
pub data SeatMove : Type 0 where
  answered : SeatAnswer → SeatMove
  joined : ℕ → SeatMove

-- in some history of versions the worker with this number holds this
abbrev pub HoldsInSomeHistory : ℕ → Option (ℕ × ImageValue) → Type 0
HoldsInSomeHistory number held = (known : KnownHistory) × HoldsAsKnown known number held

-- from one value of a worker's seat to the next, by one answer. In some history the worker holds what is pinned; that the history which the seat
-- knows published it, `Learns` says. A refusal has its cause, which is none of a lock's
abbrev pub AnswerStep : ℕ → SeatValue → SeatAnswer → SeatValue → Type 0
AnswerStep number a (SeatAnswer.Pinned version image) b =
    (a.held ≡ None) × (a.seen ≤ version) × (b ≡ pinned a version image) × HoldsInSomeHistory number (Some (version, image.value))
AnswerStep number a (SeatAnswer.PinRefused fault) b = KnowsItsSeats fault × ShowsPin a (Err fault) b
AnswerStep number a SeatAnswer.Released b = ShowsRelease a (Ok tt) b
AnswerStep number a (SeatAnswer.ReleaseRefused fault) b = KnowsItsSeats fault × ShowsRelease a (Err fault) b

-- from one value of a worker's seat to the next, by an answer, or by a notice, after which the seat has seen that version
abbrev pub MoveStep : ℕ → SeatValue → SeatMove → SeatValue → Type 0
MoveStep number a (answered answer) b = AnswerStep number a answer b
MoveStep number a (joined version) b = ShowsJoin a version b

-- from one value of a worker's seat to another, by these moves in order
abbrev pub Follows : ℕ → SeatValue → List SeatMove → SeatValue → Type 0
Follows number a [] b = b ≡ a
Follows number a (first ∷ moves) b = (m : SeatValue) × MoveStep number a first m × Follows number m moves b

abbrev pub answers_in : List SeatMove → List SeatAnswer
answers_in [] = []
answers_in (answered answer ∷ moves) = answer ∷ answers_in moves
answers_in (joined version ∷ moves) = answers_in moves

-- a reply, and what the seat showed when it was written
pub record SeatReply : Type 0 where
  pub shown : SeatValue
  pub reply : ReplyValue

abbrev pub seat_reply : SeatValue → ReplyValue → SeatReply
seat_reply shown reply = record { shown = shown; reply = reply }

-- a version is pinned and given back
pub record PinsOnce (moves : List SeatMove) (version : ℕ) (image : ImageValue) : Type 0 where
  pub shown : Snapshot ImageValue
  pub image_is : shown.value ≡ image
  pub moves_are : moves ≡ answered (SeatAnswer.Pinned version shown) ∷ answered SeatAnswer.Released ∷ []

-- no version that is pinned is older than `least`, than one that was pinned before, or than that of a notice that was joined before
abbrev pub NeverFalls : ℕ → List SeatMove → Type 0
NeverFalls least [] = Unit {0}
NeverFalls least (answered (SeatAnswer.Pinned version image) ∷ moves) = (least ≤ version) × NeverFalls version moves
NeverFalls least (answered answer ∷ moves) = NeverFalls least moves
NeverFalls least (joined version ∷ moves) = NeverFalls (max least version) moves
