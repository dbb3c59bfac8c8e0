use Rattle.std.proofs.Common.{◌∙◌}
use Rattle.image_verifier.proofs.ImageReads.{image_whole, image_within, image_departure}
use Rattle.image_verifier.proofs.departures.Departures.read.Goals as goal

pub dep_at-requires-clause-whole : goal.dep_at-requires-clause-whole
dep_at-requires-clause-whole c = image_whole _ _ _ c.words.ensures.0

pub dep_at-requires-clause-within : goal.dep_at-requires-clause-within
dep_at-requires-clause-within c = image_within _ _ _ c.args.position c.words.ensures.0 c.requires

pub returns-clause-departure : goal.returns-clause-departure
returns-clause-departure c = c.dep_at.ensures ∙ image_departure _ _ _ c.args.position c.words.ensures.0 c.requires
