use Rattle.journeys.proofs.CountLemmas.{faultless_counts}
use Rattle.journeys.proofs.counts.faultless_counts.Goals as goal

pub returns : goal.returns
returns c = λ t q j. faultless_counts t q j
