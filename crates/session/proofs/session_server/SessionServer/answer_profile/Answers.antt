use Rattle.session.proofs.LearnLemmas.{goes_on_same}
use Rattle.session.proofs.session_server.SessionServer.answer_profile.Goals as goal

pub returns-in-Some-clause-seat : goal.returns-in-Some-clause-seat
returns-in-Some-clause-seat g c = goes_on_same _ _ _ c.requires
