use Rattle.session.proofs.OneLemmas.{tells_of_one}
use Rattle.session.proofs.laws.one_stop_is_asked_plainly.Goals as goal

pub returns : goal.returns
returns c = λ form image version one reply. tells_of_one form image version one reply c.one_stop_is_plain.ensures
