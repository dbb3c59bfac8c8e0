-- What a notice does to a seat.
use Rattle.std.proofs.Common.{◌≡◌, ℕ, zero, suc, ◌≤◌, Some, Result, Ok, Err, ap, sym, ◌∙◌, arith, inl, inr}
use Rattle.shelves.specs.declared.faults.PinFault.{PinFault}
use Rattle.shelves.specs.Seats.{SeatValue, ShowsPin, ShowsRelease, ShowsJoin}
use Rattle.std.specs.Arc.{arc_value}
use Rattle.image_layout.specs.Image.{ImageValue}
use Rattle.shelves.specs.SeatLaws.{SeatStep, SeatSteps, GivesFrom, JoinedVersionsStay, PinsSo, SeatCall, SeatCalls, AnswersFrom, JoinedVersionsStayAtShelves}
use Rattle.shelves.specs.ShelfSeats.{ShelfSeatValue}

pin_rises : (a b : SeatValue) (r : Result (Unit {0}) PinFault) → ShowsPin a r b → a.seen ≤ b.seen
pin_rises a b (Ok u) h = let is = ap (λ (s : SeatValue). s.seen) h.1.3 in let up = h.1.2 in omega arith
pin_rises a b (Err (PinFault.Moved newest)) h = let is = ap (λ (s : SeatValue). s.seen) h.2 in let up = h.1 in omega arith
pin_rises a b (Err PinFault.AlreadyPinned) h = let is = ap (λ (s : SeatValue). s.seen) h.1 in omega arith
pin_rises a b (Err PinFault.SeatLost) h = let is = ap (λ (s : SeatValue). s.seen) h.1 in omega arith
pin_rises a b (Err PinFault.OutOfMemory) h = let is = ap (λ (s : SeatValue). s.seen) h.1 in omega arith
pin_rises a b (Err PinFault.NotPinned) h = absurd h

release_stays : (a b : SeatValue) (r : Result (Unit {0}) PinFault) → ShowsRelease a r b → a.seen ≤ b.seen
release_stays a b (Ok u) h = let is = ap (λ (s : SeatValue). s.seen) h.1 in omega arith
release_stays a b (Err PinFault.NotPinned) h = let is = ap (λ (s : SeatValue). s.seen) h.1 in omega arith
release_stays a b (Err PinFault.SeatLost) h = let is = ap (λ (s : SeatValue). s.seen) h.1 in omega arith
release_stays a b (Err _) h = absurd h

join_rises : (a b : SeatValue) (v : ℕ) → ShowsJoin a v b → (a.seen ≤ b.seen) × (v ≤ b.seen)
join_rises a b v h = let is = ap (λ (s : SeatValue). s.seen) h in (omega arith, omega arith)

step_rises : (a b : SeatValue) → SeatStep a b → a.seen ≤ b.seen
step_rises a b h = elim h [ inl p ↦ pin_rises a b p.0 p.1 | inr q ↦ elim q [ inl p ↦ release_stays a b p.0 p.1 | inr p ↦ (join_rises a b p.0 p.1).0 ] ]

steps_rise : (n : ℕ) (a b : SeatValue) → SeatSteps n a b → a.seen ≤ b.seen
steps_rise zero a b h = let is = ap (λ (s : SeatValue). s.seen) h in omega arith
steps_rise (suc n) a b h = let one = step_rises a h.0 h.1 in let rest = steps_rise n h.0 b h.2 in omega arith

gives_from : (c d : SeatValue) (v : ℕ) (r : Result (Unit {0}) PinFault) → v ≤ c.seen → ShowsPin c r d → GivesFrom v r d
gives_from c d v (Ok u) low h = (h.1.0, h.1.1.value, ap (λ (s : SeatValue). s.held) h.1.3, (let up = h.1.2 in omega arith))
gives_from c d v (Err (PinFault.Moved newest)) low h = let up = h.1 in omega arith
gives_from c d v (Err _) low h = tt

pub joined_stay : JoinedVersionsStay
joined_stay a b c d v n r join steps pin =
    let first = (join_rises a b v join).1 in let later = steps_rise n b c steps in gives_from c d v r (omega arith) pin

-- the calls of shelves without a lock, as what the seat shows
call_shown : (a b : ShelfSeatValue) → SeatCall a b → SeatStep a.shown b.shown
call_shown a b h = elim h [ inl p ↦ inl (p.0, p.1.0) | inr q ↦ elim q [ inl p ↦ inr (inl (p.0, p.1.0)) | inr p ↦ inr (inr (p.0, p.1.0)) ] ]

calls_shown : (n : ℕ) (a b : ShelfSeatValue) → SeatCalls n a b → SeatSteps n a.shown b.shown
calls_shown zero a b h = ap (λ (x : ShelfSeatValue). x.shown) h
calls_shown (suc n) a b h = (h.0.shown, call_shown a h.0 h.1, calls_shown n h.0 b h.2)

answers_from : (c d : ShelfSeatValue) (v : ℕ) (r : Result (Unit {0}) PinFault) → PinsSo c r d → GivesFrom v r d.shown → AnswersFrom v c r d
answers_from c d v (Ok u) h g =
    let steps = h.1.1 in
    let z : Some (g.0, g.1) ≡ Some (steps.1.version, arc_value steps.1.image) = sym g.2 ∙ steps.3 in
    let pair : (g.0, g.1) ≡ (steps.1.version, arc_value steps.1.image) = cc in
    let same : g.0 ≡ steps.1.version = ap (λ (p : ℕ × ImageValue). p.0) pair in (steps.0, steps.1, steps.2, steps.3, (let low = g.3 in omega arith))
answers_from c d v (Err (PinFault.Moved newest)) h g = g
answers_from c d v (Err PinFault.AlreadyPinned) h g = h.1.0
answers_from c d v (Err _) h g = absurd h.1

pub joined_stay_at_shelves : JoinedVersionsStayAtShelves
joined_stay_at_shelves a b c d v n r join calls pin =
    answers_from c d v r pin (joined_stay a.shown b.shown c.shown d.shown v n r join.0 (calls_shown n b c calls) pin.0)
