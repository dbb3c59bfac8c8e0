use Rattle.session.proofs.LearnLemmas.{learning_tells}
use Rattle.session.proofs.laws.profiles_are_from_published.Goals as goal

pub returns : goal.returns
returns c = learning_tells
