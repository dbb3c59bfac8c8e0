use Rattle.std.proofs.Common.{rules, ◌≡◌, ◌++◌, ◌∷◌, [], string_bytes, ◌∙◌, ap, refl, inr}
use Rattle.std.specs.Arc.{arc_value}
use Rattle.shelves.specs.declared.answers.SeatAnswer.{SeatAnswer}
use Rattle.session_texts.specs.Replies.{pin_text}
use Rattle.session_texts.specs.Requests.{pin}
use Rattle.session.specs.Lines.{asks}
use Rattle.session.proofs.MetLemmas.{answer_met, given_back, pin_met}
use Rattle.session.proofs.LearnLemmas.{goes_once}
use Rattle.session.proofs.SeatLemmas.{is_once, is_pinned}
use Rattle.session.specs.Replies.{plain}
use Rattle.session.proofs.session_server.SessionServer.pin.Goals as goal

pub returns-in-Err-clause-met : goal.returns-in-Err-clause-met
returns-in-Err-clause-met g c = answer_met (asks pin) (SeatAnswer.PinRefused c.in-Err.fault)
    (c.in-Err.ensures.refused, c.in-Err.ensures.pin)
    (refl, inr (record { fault = c.in-Err.fault; moves_are = refl; reply_is = c.pin_fault.ensures }))

pub returns-in-Ok-clause-met : goal.returns-in-Ok-clause-met
returns-in-Ok-clause-met g c =
    let e = c.in_default.ensures in
    let reply_made : string_bytes c.in-Ok.line ≡ pin_text (arc_value c.in-Some.edition.now.image).names.base
    c.in-Some.edition.now.version ++ 10 ∷ [] = search rules in
    pin_met _ _ (is_pinned _ _ _ _ _ e.still.number e.known e.pin) c.in-Some.ensures.lent (c.made.ensures ∙ ap plain reply_made)

pub returns-in-Err-reply_made-clause-met : goal.returns-in-Err-reply_made-clause-met
returns-in-Err-reply_made-clause-met g c =
    let e = c.in_default.ensures in
    given_back _ (is_once _ _ _ _ _ (is_pinned _ _ _ _ _ e.still.number e.known e.pin) c.release.ensures.release c.release.ensures.refused)
    c.refusal.ensures

pub returns-in-Err-reply_made-clause-seat : goal.returns-in-Err-reply_made-clause-seat
returns-in-Err-reply_made-clause-seat g c =
    let e = c.in_default.ensures in
    let back = c.release.ensures in
    goes_once _ _ _ c.pin.new.seat _ _ e.still.number e.still.grows e.known e.pin back.still.fits back.still.number back.still.grows back.release
