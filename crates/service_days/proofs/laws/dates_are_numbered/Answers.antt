use Rattle.service_days.proofs.DateLemmas.{compared, same}
use Rattle.service_days.proofs.laws.dates_are_numbered.Goals as goal

pub returns-clause-order : goal.returns-clause-order
returns-clause-order c = compared

pub returns-clause-same : goal.returns-clause-same
returns-clause-same c = same
