use Rattle.image_commands.proofs.Readings.{image_once, never_both, refused_once}
use Rattle.image_commands.proofs.laws.accepted_or_refused.Goals as goal

pub returns-clause-apart : goal.returns-clause-apart
returns-clause-apart c = never_both

pub returns-clause-one_image : goal.returns-clause-one_image
returns-clause-one_image c = image_once

pub returns-clause-one_refusal : goal.returns-clause-one_refusal
returns-clause-one_refusal c = refused_once
