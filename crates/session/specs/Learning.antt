-- What a seat comes to know of the history of its shelves, and what replies say of it.
use Rattle.std.specs.Prelude.{◌≡◌, ◌⊎◌, ℕ, List, [], ◌∷◌, Option, IfSome}
use Rattle.image_layout.specs.Image.{ImageValue}
use Rattle.shelf_steps.specs.declared.views.KnownHistory.{KnownHistory}
use Rattle.shelves.specs.declared.faults.PinFault.{PinFault}
use Rattle.shelves.specs.declared.answers.SeatAnswer.{SeatAnswer}
use Rattle.shelves.specs.SeatHistory.{IsPublished, LearnsBy}
use Rattle.shelves.specs.Seats.{SeatValue}
use Rattle.shelves.specs.Words.{SeatWords}
use Rattle.orders.specs.Ordering.{OrderValue}
use Rattle.session_texts.specs.Requests.{AskValue, profile}
use Rattle.session.specs.declared.reply_form.ReplyForm.{ReplyForm}
use Rattle.session.specs.Lines.{LineMeaning, asks, IsLineMeaning, memory_line, pin_fault_line}
use Rattle.session.specs.Profiles.{RepliesToProfile}
use Rattle.session.specs.Replies.{ReplyValue, plain}
use Rattle.session.specs.Sessions.{AreExchanges, LastRelease}
use Rattle.session.specs.Exchanges.{SeatState, Exchange, seat_state}

-- if a version was pinned by this answer, it was published with that image in this history
abbrev pub PinIsPublished : KnownHistory → SeatAnswer → Type 0
PinIsPublished known (SeatAnswer.Pinned version image) = IsPublished known version image.value
PinIsPublished known _ = Unit {0}

-- what is held, if anything, was published as that version with that image in this history
abbrev pub IsPublishedIfHeld : KnownHistory → Option (ℕ × ImageValue) → Type 0
IsPublishedIfHeld known held = IfSome held (λ h. IsPublished known h.0 h.1)

-- each version that the seat pinned meanwhile was published, with the image that it was pinned with, in the history that the seat knows then
abbrev pub Learns : KnownHistory → SeatValue → KnownHistory → SeatValue → Type 0
Learns known a known_then b = LearnsBy PinIsPublished known a.answers known_then b.answers

-- what every call leaves of a worker's seat: it may still be used at these shelves, it has the same worker's number, and it learned so
pub record FitsAndLearns {T S N : Type 0} (words : SeatWords T S N) (shelves : T) (a b : S) : Type 0 where
  pub fits : words.fits shelves b
  pub number : words.number b ≡ words.number a
  pub learns : Learns (words.known a) (words.shown a) (words.known b) (words.shown b)

-- this profile is answered over the image that this history published as the version that the reply names; or no version could be pinned
abbrev pub ReplyIsFromPublished : KnownHistory → ReplyForm → AskValue → ReplyValue → Type 0
ReplyIsFromPublished known form ask reply =
    ((version : ℕ) × (image : ImageValue) × IsPublished known version image × RepliesToProfile form image version ask reply)
    ⊎ ((fault : PinFault) × (reply ≡ plain (pin_fault_line fault)))

-- if a profile is asked for in this exchange, it is answered so, or the reply says that memory ran out
abbrev pub ExchangeIsFromPublished : KnownHistory → ReplyForm → Exchange → Type 0
ExchangeIsFromPublished known form t = (t.reply.text ≡ memory_line) ⊎ ((asked : LineMeaning) × IsLineMeaning form.sets t.line asked
    × ((ask : AskValue) → asked ≡ asks (profile ask) → ReplyIsFromPublished known form ask t.reply))

abbrev pub ExchangesAreFromPublished : KnownHistory → ReplyForm → List Exchange → Type 0
ExchangesAreFromPublished known form [] = Unit {0}
ExchangesAreFromPublished known form (t ∷ exchanges) = ExchangeIsFromPublished known form t × ExchangesAreFromPublished known form exchanges

-- these exchanges, and the last release after them, lead the seat from `a` to `b`
pub record LeadSeat (form : ReplyForm) (number : ℕ) (a : SeatValue) (exchanges : List Exchange) (b : SeatValue) : Type 0 where
  pub asked : List OrderValue  -- before them
  pub last : SeatState  -- as the last of them leaves it
  pub does : AreExchanges form number (seat_state a asked) exchanges last
  pub released : LastRelease number last.seat b

-- whichever exchanges led the seat from `a` to `b`: if what it held at `a` was published in this history, each profile in them is answered from what
-- was published in it
abbrev pub SeatAnswersFromPublished : KnownHistory → SeatValue → SeatValue → Type 0
SeatAnswersFromPublished known a b =
    IsPublishedIfHeld known a.held → (form : ReplyForm) (number : ℕ) (exchanges : List Exchange) → LeadSeat form number a exchanges b
    → ExchangesAreFromPublished known form exchanges

-- a seat that learns from `a` to `b` what `Learns` says answers profiles from what was published in the history that it knows at `b`
abbrev pub LearningTells : Type 0
LearningTells = (known known_then : KnownHistory) (a b : SeatValue) → Learns known a known_then b → SeatAnswersFromPublished known_then a b
