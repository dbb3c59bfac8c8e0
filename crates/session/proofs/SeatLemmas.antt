-- What is done at a seat.
use Rattle.std.proofs.Common.{◌≡◌, ◌≢◌, ◌≤◌, ℕ, max, List, [], ◌∷◌, ◌++◌, Option, Some}
use Rattle.std.proofs.Common.{None, Result, Ok, Err, IfErr, refl, sym, ap, ◌∙◌, subst, append_assoc, append-nil, arith}
use Rattle.std.specs.declared.snapshot.Snapshot.{Snapshot}
use Rattle.image_layout.specs.Image.{ImageValue}
use Rattle.shelf_steps.specs.declared.views.KnownHistory.{KnownHistory}
use Rattle.shelves.specs.declared.answers.SeatAnswer.{SeatAnswer}
use Rattle.shelves.specs.declared.faults.PinFault.{PinFault}
use Rattle.shelves.specs.SeatHistory.{HoldsAsKnown}
use Rattle.shelves.specs.Seats.{SeatValue, KnowsItsSeats, ShowsPin, ShowsRelease}
use Rattle.session.specs.Learning.{IsPublishedIfHeld, PinIsPublished}
use Rattle.session.specs.SeatSteps.{AnswerStep, Follows, NeverFalls, PinsOnce, SeatMove, answered, joined, answers_in}

-- a pin that was Ok, as an answer
pub record IsPinned (number : ℕ) (a m : SeatValue) : Type 0 where
  pub version : ℕ
  pub shown : Snapshot ImageValue
  pub held : m.held ≡ Some (version, shown.value)
  pub empty : a.held ≡ None
  pub step : AnswerStep number a (SeatAnswer.Pinned version shown) m

pub is_pinned : (known : KnownHistory) (number n : ℕ) (a m : SeatValue) → n ≡ number → HoldsAsKnown known n m.held → ShowsPin a (Ok tt) m → IsPinned number a m
is_pinned known number n a m same holds pin =
    let held : m.held ≡ Some (pin.1.0, pin.1.1.value) = ap (λ (s : SeatValue). s.held) pin.1.3 in
    let there = subst (λ (h : Option (ℕ × ImageValue)). HoldsAsKnown known number h) held (subst (λ (k : ℕ). HoldsAsKnown known k m.held) same holds) in
    record { version = pin.1.0; shown = pin.1.1; held = held; empty = pin.0; step = (pin.0, pin.1.2, pin.1.3, (known, there)) }

some_is_held : (m : SeatValue) (h : ℕ × ImageValue) → m.held ≡ Some h → m.held ≢ None
some_is_held m h some none = let no : None ≡ Some h = sym none ∙ some in absurd cc

-- what is held is given back
pub is_released : (m b : SeatValue) (r : Result (Unit {0}) PinFault) → m.held ≢ None → ShowsRelease m r b → IfErr r KnowsItsSeats → ShowsRelease m (Ok tt) b
is_released m b (Ok u) some back known = back
is_released m b (Err PinFault.SeatLost) some back known = absurd known
is_released m b (Err PinFault.NotPinned) some back known = absurd (some back.0)
is_released m b (Err fault) some back known = absurd back

-- a version is pinned and given back
pub record IsOnce (number : ℕ) (a m b : SeatValue) : Type 0 where
  pub pin : IsPinned number a m
  pub moves : List SeatMove
  pub once : PinsOnce moves pin.version pin.shown.value
  pub seat : Follows number a moves b

pub is_once : (number : ℕ) (a m b : SeatValue) (r : Result (Unit {0}) PinFault) → IsPinned number a m → ShowsRelease m r b → IfErr r KnowsItsSeats
    → IsOnce number a m b
is_once number a m b r pin back known = record {
  pin = pin;
  moves = answered (SeatAnswer.Pinned pin.version pin.shown) ∷ answered SeatAnswer.Released ∷ [];
  once = record { shown = pin.shown; image_is = refl; moves_are = refl };
  seat = (m, pin.step, (b, is_released m b r (some_is_held m (pin.version, pin.shown.value) pin.held) back known, refl));
}

-- what each answer makes of the seat: it is the last of the list, what was seen never falls, and what is held was published if what was held before
-- was, and what the answer tells
pub record Steps (a : SeatValue) (answer : SeatAnswer) (b : SeatValue) : Type 0 where
  pub answers : b.answers ≡ a.answers ++ answer ∷ []
  pub rises : a.seen ≤ b.seen
  pub held : (k : KnownHistory) → IsPublishedIfHeld k a.held → PinIsPublished k answer → IsPublishedIfHeld k b.held

steps_to : (a c b : SeatValue) (answer : SeatAnswer) → b ≡ c → c.answers ≡ a.answers ++ answer ∷ [] → a.seen ≤ c.seen
    → ((k : KnownHistory) → IsPublishedIfHeld k a.held → PinIsPublished k answer → IsPublishedIfHeld k c.held) → Steps a answer b
steps_to a c b answer is answers rises held =
    subst (λ (s : SeatValue). Steps a answer s) (sym is) (record { answers = answers; rises = rises; held = held })

pub pin_refused : (a b : SeatValue) (fault : PinFault) → ShowsPin a (Err fault) b → Steps a (SeatAnswer.PinRefused fault) b
pin_refused a b (PinFault.Moved newest) step =
    steps_to a _ b (SeatAnswer.PinRefused (PinFault.Moved newest)) step.2 refl (omega (arith, step.1)) (λ k was told. was)
pin_refused a b PinFault.NotPinned step = absurd step
pin_refused a b fault step = steps_to a _ b _ step.1 refl (omega arith) (λ k was told. was)

pub release_refused : (a b : SeatValue) (fault : PinFault) → ShowsRelease a (Err fault) b → Steps a (SeatAnswer.ReleaseRefused fault) b
release_refused a b PinFault.NotPinned step = steps_to a _ b _ step.1 refl (omega arith) (λ k was told. was)
release_refused a b PinFault.SeatLost step = steps_to a _ b _ step.1 refl (omega arith) (λ k was told. tt)
release_refused a b fault step = absurd step

pub steps : (number : ℕ) (a b : SeatValue) (answer : SeatAnswer) → AnswerStep number a answer b → Steps a answer b
steps number a b (SeatAnswer.Pinned version image) step = steps_to a _ b (SeatAnswer.Pinned version image) step.2 refl step.1 (λ k was told. told)
steps number a b (SeatAnswer.PinRefused fault) step = pin_refused a b fault step.1
steps number a b SeatAnswer.Released step = steps_to a _ b SeatAnswer.Released step.1 refl (omega arith) (λ k was told. tt)
steps number a b (SeatAnswer.ReleaseRefused fault) step = release_refused a b fault step.1

pub answers_grow : (number : ℕ) (a b : SeatValue) (moves : List SeatMove) → Follows number a moves b → b.answers ≡ a.answers ++ answers_in moves
answers_grow number a b [] same = ap (λ (s : SeatValue). s.answers) same ∙ sym (append-nil a.answers)
answers_grow number a b (answered answer ∷ moves) (m, step, rest) =
    answers_grow number m b moves rest ∙ ap (λ (xs : List SeatAnswer). xs ++ answers_in moves) (steps number a m answer step).answers
    ∙ append_assoc a.answers (answer ∷ []) (answers_in moves)
answers_grow number a b (joined version ∷ moves) (m, step, rest) =
    answers_grow number m b moves rest ∙ ap (λ (s : SeatValue). s.answers ++ answers_in moves) step

pub never_falls : (number least : ℕ) (a b : SeatValue) (moves : List SeatMove) → least ≤ a.seen → Follows number a moves b → NeverFalls least moves
never_falls number least a b [] low same = tt
never_falls number least a b (answered (SeatAnswer.Pinned version image) ∷ moves) low (m, step, rest) =
    let seen : m.seen ≡ version = ap (λ (s : SeatValue). s.seen) step.2 in
    (omega (arith, low, step.1), never_falls number version m b moves (omega (arith, seen)) rest)
never_falls number least a b (answered answer ∷ moves) low (m, step, rest) =
    never_falls number least m b moves (omega (arith, low, (steps number a m answer step).rises)) rest
never_falls number least a b (joined version ∷ moves) low (m, step, rest) =
    let seen : m.seen ≡ max a.seen version = ap (λ (s : SeatValue). s.seen) step in
    never_falls number (max least version) m b moves (omega (arith, low, seen)) rest

pub Follows-append : (number : ℕ) (a m b : SeatValue) (xs ys : List SeatMove) → Follows number a xs m → Follows number m ys b → Follows number a (xs ++ ys) b
Follows-append number a m b [] ys same rest = subst (λ (s : SeatValue). Follows number s ys b) same rest
Follows-append number a m b (x ∷ xs) ys (n, step, more) rest = (n, step, Follows-append number n m b xs ys more rest)
