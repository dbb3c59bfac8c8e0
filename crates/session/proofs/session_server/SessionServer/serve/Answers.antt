use Rattle.session.proofs.LearnLemmas.{goes_on, learning_tells}
use Rattle.session.proofs.session_server.SessionServer.serve.Goals as goal

pub returns-clause-seat : goal.returns-clause-seat
returns-clause-seat g c = goes_on _ _ _ _ _ c.answer_lines-outcome.ensures.seat c.release_last.ensures.seat

pub returns-clause-profiles : goal.returns-clause-profiles
returns-clause-profiles g c =
    learning_tells _ _ _ _ (goes_on _ _ _ _ _ c.answer_lines-outcome.ensures.seat c.release_last.ensures.seat).learns
