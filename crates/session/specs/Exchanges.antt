-- Exchanges of a session: a line, what was done for it, and the reply.
use Rattle.std.specs.Prelude.{◌≡◌, ◌⊎◌, ◌++◌, ◌∷◌, ℕ, Bool, true, false, List, [], Option, Some, None, Ok, Err}
use Rattle.std.specs.declared.snapshot.Snapshot.{Snapshot}
use Rattle.image_layout.specs.Image.{ImageValue}
use Rattle.shelves.specs.declared.answers.SeatAnswer.{SeatAnswer}
use Rattle.shelves.specs.declared.faults.PinFault.{PinFault}
use Rattle.shelves.specs.Seats.{SeatValue}
use Rattle.orders.specs.declared.fault.OrderFault.{OrderFault}
use Rattle.orders.specs.Ordering.{IsNotTaken, OrderValue, order_value, waited_value}
use Rattle.session_texts.specs.Replies.{line_of, load_data, loaded_data, pin_text, release_text}
use Rattle.session_texts.specs.Requests.{AskValue, pin, release, profile, load}
use Rattle.session_texts.specs.declared.refusals.Refusal.{Refusal}
use Rattle.session.specs.declared.reply_form.ReplyForm.{ReplyForm}
use Rattle.session.specs.Lines.{LineMeaning, too_long, no_json, no_request, asks, IsLineMeaning, memory_line, order_fault_line, pin_fault_line, refusal_line}
use Rattle.session.specs.Profiles.{RepliesToProfile}
use Rattle.session.specs.Replies.{ReplyValue, plain}
use Rattle.session.specs.SeatSteps.{Follows, PinsOnce, SeatMove, answered, joined}

pub record Exchange : Type 0 where
  pub line : List ℕ  -- without its LF
  pub moves : List SeatMove  -- at the seat in this exchange
  pub orders : List OrderValue  -- that were asked for in this exchange
  pub reply : ReplyValue
  pub shown : SeatValue  -- what the seat showed when the reply was written

-- what is done for a line: the moves at the seat, the orders that are asked for, and the reply
pub record Deed : Type 0 where
  pub moves : List SeatMove
  pub orders : List OrderValue
  pub reply : ReplyValue

abbrev pub deed_of : List SeatMove → List OrderValue → ReplyValue → Deed
deed_of moves orders reply = record { moves = moves; orders = orders; reply = reply }

-- a pin is refused
pub record PinIsRefused (moves : List SeatMove) (reply : ReplyValue) : Type 0 where
  pub fault : PinFault
  pub moves_are : moves ≡ answered (SeatAnswer.PinRefused fault) ∷ []
  pub reply_is : reply ≡ plain (pin_fault_line fault)

-- a version is pinned, and the reply names it with the base from which its clock texts count
pub record PinIsMet (moves : List SeatMove) (reply : ReplyValue) : Type 0 where
  pub version : ℕ
  pub image : Snapshot ImageValue
  pub moves_are : moves ≡ answered (SeatAnswer.Pinned version image) ∷ []
  pub reply_is : reply ≡ plain (pin_text image.value.names.base version ++ 10 ∷ [])

pub record ReleaseIsRefused (moves : List SeatMove) (reply : ReplyValue) : Type 0 where
  pub fault : PinFault
  pub moves_are : moves ≡ answered (SeatAnswer.ReleaseRefused fault) ∷ []
  pub reply_is : reply ≡ plain (pin_fault_line fault)

-- the feed is ordered, or the order is refused
abbrev pub OrderIsMet : List ℕ → List OrderValue → ReplyValue → Type 0
OrderIsMet feed orders reply =
    ((orders ≡ order_value feed (Ok tt) ∷ []) × (reply ≡ plain (line_of (load_data feed))))
    ⊎ ((fault : OrderFault) × IsNotTaken fault × (orders ≡ order_value feed (Err fault) ∷ []) × (reply ≡ plain (order_fault_line fault)))

-- a version came of the order: a notice of it is joined, and the reply names the version, or says that memory for such a reply ran out
pub record VersionIsMet (feed : List ℕ) (moves : List SeatMove) (orders : List OrderValue) (reply : ReplyValue) : Type 0 where
  pub version : ℕ
  pub moves_are : moves ≡ joined version ∷ []
  pub orders_are : orders ≡ waited_value feed (Ok version) ∷ []
  pub reply_is : (reply ≡ plain (line_of (loaded_data feed version))) ⊎ (reply ≡ plain memory_line)

-- no version came of the order, and the reply says why
pub record NoVersionIsMet (feed : List ℕ) (moves : List SeatMove) (orders : List OrderValue) (reply : ReplyValue) : Type 0 where
  pub fault : OrderFault
  pub moves_are : moves ≡ []
  pub orders_are : orders ≡ waited_value feed (Err fault) ∷ []
  pub reply_is : reply ≡ plain (order_fault_line fault)

-- an order is put, or is waited for
abbrev pub LoadIsMet : Bool → List ℕ → List SeatMove → List OrderValue → ReplyValue → Type 0
LoadIsMet false feed moves orders reply = (moves ≡ []) × OrderIsMet feed orders reply
LoadIsMet true feed moves orders reply = VersionIsMet feed moves orders reply ⊎ NoVersionIsMet feed moves orders reply

-- a profile is answered from a version that is pinned for it and given back
pub record ProfileIsMetOnce (form : ReplyForm) (ask : AskValue) (moves : List SeatMove) (reply : ReplyValue) : Type 0 where
  pub version : ℕ
  pub image : ImageValue
  pub once : PinsOnce moves version image
  pub replied : RepliesToProfile form image version ask reply

-- a profile is answered from what is held; or, if nothing is, from a version that is pinned for it, unless the pin is refused
abbrev pub ProfileIsMet : ReplyForm → Option (ℕ × ImageValue) → AskValue → List SeatMove → ReplyValue → Type 0
ProfileIsMet form (Some held) ask moves reply = (moves ≡ []) × RepliesToProfile form held.1 held.0 ask reply
ProfileIsMet form None ask moves reply = ProfileIsMetOnce form ask moves reply ⊎ PinIsRefused moves reply

-- nothing was done, and the refusal is reported
abbrev pub IsRefused : Refusal → Deed → Type 0
IsRefused refusal d = (d.moves ≡ []) × (d.orders ≡ []) × (d.reply ≡ plain (refusal_line refusal))

-- what was asked, at a seat that holds this, is met by this deed
abbrev pub Meets : ReplyForm → Option (ℕ × ImageValue) → LineMeaning → Deed → Type 0
Meets form held too_long d = IsRefused Refusal.LineTooLong d
Meets form held no_json d = IsRefused Refusal.BadJson d
Meets form held no_request d = IsRefused Refusal.BadRequest d
Meets form held (asks pin) d = (d.orders ≡ []) × (PinIsMet d.moves d.reply ⊎ PinIsRefused d.moves d.reply)
Meets form held (asks release) d =
    (d.orders ≡ []) × (((d.moves ≡ answered SeatAnswer.Released ∷ []) × (d.reply ≡ plain release_text)) ⊎ ReleaseIsRefused d.moves d.reply)
Meets form held (asks (load feed waits)) d = LoadIsMet waits feed d.moves d.orders d.reply
Meets form held (asks (profile ask)) d = (d.orders ≡ []) × ProfileIsMet form held ask d.moves d.reply

-- there was no memory: nothing is ordered, and nothing is done at the seat; or, if a pin is asked for, a version is pinned and given back
abbrev pub WantsMemory : LineMeaning → Deed → Type 0
WantsMemory asked d =
    (d.reply ≡ plain memory_line) × (d.orders ≡ [])
    × ((d.moves ≡ []) ⊎ ((asked ≡ asks pin) × ((version : ℕ) × (image : ImageValue) × PinsOnce d.moves version image)))

-- what was asked, and the reply
pub record Replied : Type 0 where
  pub asked : LineMeaning
  pub reply : ReplyValue

abbrev pub replied_to : LineMeaning → ReplyValue → Replied
replied_to asked reply = record { asked = asked; reply = reply }

-- what was asked is met without an order, with this reply, or the reply says that memory ran out; the moves that this takes lead the seat from `a` to `b`
pub record IsMet (form : ReplyForm) (number : ℕ) (a : SeatValue) (replied : Replied) (b : SeatValue) : Type 0 where
  pub moves : List SeatMove
  pub meets : WantsMemory replied.asked (deed_of moves [] replied.reply) ⊎ Meets form a.held replied.asked (deed_of moves [] replied.reply)
  pub seat : Follows number a moves b

-- a load of this feed that was waited for is met by this deed, whose moves lead the seat from `a` to `b`
pub record IsLoaded (number : ℕ) (a : SeatValue) (feed : List ℕ) (d : Deed) (b : SeatValue) : Type 0 where
  pub meets : LoadIsMet true feed d.moves d.orders d.reply
  pub seat : Follows number a d.moves b

-- both functions give the same version for each notice
abbrev pub AgreeOnNotices : {N : Type 0} → (N → ℕ) → (N → ℕ) → Type 0
AgreeOnNotices {N} published_as noted = (notice : N) → published_as notice ≡ noted notice

-- what the line asks is met, or there was no memory for that; or there was none even to find out what it asks, and nothing is done
abbrev pub IsExchange : ReplyForm → Option (ℕ × ImageValue) → Exchange → Type 0
IsExchange form held t =
    ((t.reply ≡ plain memory_line) × (t.orders ≡ []) × (t.moves ≡ []))
    ⊎ ((asked : LineMeaning) × IsLineMeaning form.sets t.line asked
    × (WantsMemory asked (deed_of t.moves t.orders t.reply) ⊎ Meets form held asked (deed_of t.moves t.orders t.reply)))

-- what exchanges change: the seat, and the orders that were asked for
pub record SeatState : Type 0 where
  pub seat : SeatValue
  pub asked : List OrderValue

abbrev pub seat_state : SeatValue → List OrderValue → SeatState
seat_state seat asked = record { seat = seat; asked = asked }

-- the exchange's moves lead the seat from `a` to `b`, as which it is shown at the reply, and the list of orders grows by the exchange's orders
pub record ExchangeLeadsTo (form : ReplyForm) (number : ℕ) (a : SeatState) (t : Exchange) (b : SeatState) : Type 0 where
  pub is : IsExchange form a.seat.held t
  pub seat : Follows number a.seat t.moves b.seat
  pub shown : t.shown ≡ b.seat
  pub orders : b.asked ≡ a.asked ++ t.orders
