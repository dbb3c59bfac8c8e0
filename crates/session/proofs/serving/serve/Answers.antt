use Rattle.std.proofs.Common.{subst}
use Rattle.session.specs.Learning.{FitsAndLearns}
use Rattle.session.proofs.LearnLemmas.{goes_on, learning_tells}
use Rattle.session.proofs.serving.serve.Goals as goal

pub returns-clause-seat : goal.returns-clause-seat
returns-clause-seat g c =
    let seat = goes_on _ _ _ _ _ c.answer_lines-outcome.ensures.seat c.release_last.ensures.seat in
    subst (λ shelves. FitsAndLearns g.T.Versions.words shelves c.args.seat.now c.release_last.new.seat) c.new-session_server.ensures.shelves seat

pub returns-clause-profiles : goal.returns-clause-profiles
returns-clause-profiles g c =
    learning_tells _ _ _ _ (goes_on _ _ _ _ _ c.answer_lines-outcome.ensures.seat c.release_last.ensures.seat).learns
