use Rattle.journeys.proofs.PlainLemmas.{journey_is_plain, clock_is_plain}
use Rattle.journeys.proofs.text.plain_texts.Goals as goal

pub returns-clause-journeys : goal.returns-clause-journeys
returns-clause-journeys c j = journey_is_plain j

pub returns-clause-clocks : goal.returns-clause-clocks
returns-clause-clocks c time = clock_is_plain time
