use Rattle.journeys.proofs.TextLemmas.{one_journey}
use Rattle.journeys.proofs.text.one_text.Goals as goal

pub returns : goal.returns
returns c = λ j k. one_journey j k
