use Rattle.session_texts.proofs.LawLemmas.{asks_single, asks_with_sets}
use Rattle.session_texts.proofs.laws.sets_add_only.Goals as goal

pub returns-clause-same : goal.returns-clause-same
returns-clause-same c = asks_with_sets

pub returns-clause-one : goal.returns-clause-one
returns-clause-one c = asks_single
