use Rattle.session.proofs.AskedLemmas.{one_asked}
use Rattle.session.proofs.laws.one_thing_is_asked.Goals as goal

pub returns : goal.returns
returns c = one_asked c.one_value.ensures c.one_request.ensures
