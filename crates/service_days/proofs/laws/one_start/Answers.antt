use Rattle.service_days.proofs.StartLemmas.{same_start}
use Rattle.service_days.proofs.laws.one_start.Goals as goal

pub returns : goal.returns
returns c = same_start
