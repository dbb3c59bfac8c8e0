-- What a request asks of a seat is met.
use Rattle.std.proofs.Common.{◌≡◌, ◌⊎◌, ℕ, List, [], ◌∷◌, ◌++◌, Option, Some, None, IfSome, Err, refl, sym, ◌∙◌, subst, inl, inr}
use Rattle.image_layout.specs.Image.{ImageValue}
use Rattle.shelves.specs.declared.answers.SeatAnswer.{SeatAnswer}
use Rattle.shelves.specs.declared.faults.PinFault.{PinFault}
use Rattle.shelves.specs.Seats.{SeatValue, KnowsItsSeats, ShowsPin}
use Rattle.session_texts.specs.Replies.{pin_text}
use Rattle.session_texts.specs.Requests.{AskValue, pin, profile}
use Rattle.session.specs.declared.reply_form.ReplyForm.{ReplyForm}
use Rattle.session.specs.Lines.{LineMeaning, asks, memory_line, pin_fault_line}
use Rattle.session.specs.Profiles.{RepliesToProfile}
use Rattle.session.specs.SeatSteps.{AnswerStep, answered}
use Rattle.session.specs.Exchanges.{IsMet, Meets, PinIsRefused, ProfileIsMet, ProfileIsMetOnce, deed_of, replied_to}
use Rattle.session.specs.Replies.{ReplyValue, plain}
use Rattle.session.proofs.SeatLemmas.{IsOnce, IsPinned}

module _ {form : ReplyForm} {number : ℕ} {a b : SeatValue} {reply : ReplyValue} where
  -- one call at the seat meets what was asked
  pub answer_met : (asked : LineMeaning) (answer : SeatAnswer) → AnswerStep number a answer b
      → Meets form a.held asked (deed_of (answered answer ∷ []) [] reply) → IsMet form number a (replied_to asked reply) b
  answer_met asked answer step met = record { moves = answered answer ∷ []; meets = inr met; seat = (b, step, refl) }

  -- a pin is reported, with the version and the image that are lent
  pub pin_met : (version : ℕ) (image : ImageValue) (p : IsPinned number a b) → b.held ≡ Some (version, image)
      → reply ≡ plain (pin_text image.names.base version ++ 10 ∷ []) → IsMet form number a (replied_to (asks pin) reply) b
  pin_met version image p lent fact =
      let same = subst (λ (h : Option (ℕ × ImageValue)). IfSome h (λ (x : ℕ × ImageValue). reply ≡ plain (pin_text x.1.names.base x.0 ++ 10 ∷ [])))
      (sym lent ∙ p.held) fact in
      answer_met (asks pin) (SeatAnswer.Pinned p.version p.shown) p.step
      (refl, inl (record { version = p.version; image = p.shown; moves_are = refl; reply_is = same }))

  -- where memory is wanting, what was pinned is given back
  pub given_back : (m : SeatValue) → IsOnce number a m b → reply ≡ plain memory_line → IsMet form number a (replied_to (asks pin) reply) b
  given_back m o fact =
      record { moves = o.moves; meets = inl (fact, refl, inr (refl, (o.pin.version, o.pin.shown.value, o.once))); seat = o.seat }

  -- a profile for which no version can be pinned
  pub profile_refused : (fault : PinFault) (ask : AskValue) → a.held ≡ None → KnowsItsSeats fault → ShowsPin a (Err fault) b
      → reply ≡ plain (pin_fault_line fault) → IsMet form number a (replied_to (asks (profile ask)) reply) b
  profile_refused fault ask empty known step fact =
      let moves = answered (SeatAnswer.PinRefused fault) ∷ [] in
      let refused : PinIsRefused moves reply = record { fault = fault; moves_are = refl; reply_is = fact } in
      answer_met (asks (profile ask)) (SeatAnswer.PinRefused fault) (known, step)
      (refl, subst (λ (h : Option (ℕ × ImageValue)). ProfileIsMet form h ask moves reply) (sym empty) (inr refused))

  -- and from a version that is pinned for it
  pub profile_met_once : (m : SeatValue) (version : ℕ) (image : ImageValue) (ask : AskValue) → IsOnce number a m b → m.held ≡ Some (version, image)
      → RepliesToProfile form image version ask reply → IsMet form number a (replied_to (asks (profile ask)) reply) b
  profile_met_once m version image ask o lent fact =
      let told = subst (λ (h : Option (ℕ × ImageValue)). IfSome h (λ (x : ℕ × ImageValue). RepliesToProfile form x.1 x.0 ask reply))
      (sym lent ∙ o.pin.held) fact in
      let met : ProfileIsMetOnce form ask o.moves reply = record { version = o.pin.version; image = o.pin.shown.value; once = o.once; replied = told } in
      let is = subst (λ (h : Option (ℕ × ImageValue)). ProfileIsMet form h ask o.moves reply) (sym o.pin.empty) (inl met) in
      record { moves = o.moves; meets = inr (refl, is); seat = o.seat }
