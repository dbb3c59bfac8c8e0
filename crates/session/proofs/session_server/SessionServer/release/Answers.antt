use Rattle.std.proofs.Common.{◌∙◌, ap, refl, inl, inr}
use Rattle.shelves.specs.declared.answers.SeatAnswer.{SeatAnswer}
use Rattle.session_texts.specs.Requests.{release}
use Rattle.session.specs.Lines.{asks}
use Rattle.session.proofs.MetLemmas.{answer_met}
use Rattle.session.specs.Replies.{plain}
use Rattle.session.proofs.session_server.SessionServer.release.Goals as goal

pub returns-in-Ok-clause-met : goal.returns-in-Ok-clause-met
returns-in-Ok-clause-met g c =
    answer_met (asks release) SeatAnswer.Released c.in-Ok.ensures.release (refl, inl (refl, c.fixed.ensures ∙ ap plain c.release_line.ensures))

pub returns-in-Err-clause-met : goal.returns-in-Err-clause-met
returns-in-Err-clause-met g c = answer_met (asks release) (SeatAnswer.ReleaseRefused c.in-Err.fault)
    (c.in-Err.ensures.refused, c.in-Err.ensures.release)
    (refl, inr (record { fault = c.in-Err.fault; moves_are = refl; reply_is = c.pin_fault.ensures }))
