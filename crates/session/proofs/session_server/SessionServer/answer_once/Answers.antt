use Rattle.session.proofs.MetLemmas.{profile_refused, profile_met_once}
use Rattle.session.proofs.LearnLemmas.{goes_once}
use Rattle.session.proofs.SeatLemmas.{is_once, is_pinned}
use Rattle.session.proofs.session_server.SessionServer.answer_once.Goals as goal

pub returns-in-Err-clause-met : goal.returns-in-Err-clause-met
returns-in-Err-clause-met g c = profile_refused _ _ c.requires.idle c.in-Err.ensures.refused c.in-Err.ensures.pin c.pin_fault.ensures

pub returns-clause-met : goal.returns-clause-met
returns-clause-met g c =
    let e = c.in_default.ensures in
    profile_met_once _ _ _ _ (is_once _ _ _ _ _ (is_pinned _ _ _ _ _ e.still.number e.known e.pin) c.release.ensures.release c.release.ensures.refused)
    c.in-Some.ensures.lent c.answer_from-reply.ensures

pub returns-clause-seat : goal.returns-clause-seat
returns-clause-seat g c =
    let e = c.in_default.ensures in
    let back = c.release.ensures in
    goes_once _ _ _ c.pin.new.seat _ _ e.still.number e.still.grows e.known e.pin back.still.fits back.still.number back.still.grows back.release
