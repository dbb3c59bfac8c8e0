use Rattle.service_days.proofs.DayLemmas.{counted_on}
use Rattle.service_days.proofs.laws.days_are_counted_on.Goals as goal

pub returns : goal.returns
returns c = counted_on
