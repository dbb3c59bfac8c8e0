use Rattle.service_days.proofs.StartLemmas.{never_both}
use Rattle.service_days.proofs.laws.started_or_not.Goals as goal

pub returns : goal.returns
returns c = never_both
