use Rattle.journeys.proofs.TextLemmas.{is_found, is_only}
use Rattle.journeys.proofs.text.journey_parse.Goals as goal

pub returns-clause-found : goal.returns-clause-found
returns-clause-found c = is_found c.args.text.now c.journey.result c.journey.ensures

pub returns-clause-only : goal.returns-clause-only
returns-clause-only c = is_only c.args.text.now c.journey.result c.journey.ensures
